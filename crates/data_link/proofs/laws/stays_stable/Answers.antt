use Rattle.data_link.proofs.Stable.{stable-event, stable-run}
use Rattle.data_link.proofs.laws.stays_stable.Goals as goal

pub returns-clause-stays : goal.returns-clause-stays
returns-clause-stays c = let g = c.stays_good.ensures in let f = c.fresh_value.ensures in stable-event g.stays g.front f.front f.front_stays_or_turns_good f.some_value

pub returns-clause-stays_in_runs : goal.returns-clause-stays_in_runs
returns-clause-stays_in_runs c = let g = c.stays_good.ensures in let f = c.fresh_value.ensures in stable-run g.stays g.front f.front f.front_stays_or_turns_good f.some_value
