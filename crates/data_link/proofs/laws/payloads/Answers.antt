use Rattle.data_link.proofs.Stable.{stable-event}
use Rattle.data_link.proofs.Refresh.{staged-present, copy-staged, taken-copied, payloads-keep, moved-run, sweep-copies, sweep-refreshes, three-sweeps-refresh}
use Rattle.data_link.proofs.laws.payloads.Goals as goal

pub returns-clause-staged : goal.returns-clause-staged
returns-clause-staged c = staged-present

pub returns-clause-copy : goal.returns-clause-copy
returns-clause-copy c = let g = c.stays_good.ensures in let f = c.fresh_value.ensures in copy-staged g.front (stable-event g.stays g.front f.front f.front_stays_or_turns_good f.some_value)

pub returns-clause-taken : goal.returns-clause-taken
returns-clause-taken c = taken-copied

pub returns-clause-keep : goal.returns-clause-keep
returns-clause-keep c = let g = c.stays_good.ensures in let f = c.fresh_value.ensures in payloads-keep g.front (stable-event g.stays g.front f.front f.front_stays_or_turns_good f.some_value)

pub returns-clause-move_refreshes : goal.returns-clause-move_refreshes
returns-clause-move_refreshes c = moved-run

pub returns-clause-sweep_refreshes : goal.returns-clause-sweep_refreshes
returns-clause-sweep_refreshes c = let g = c.stays_good.ensures in let f = c.fresh_value.ensures in sweep-refreshes g.front (stable-event g.stays g.front f.front f.front_stays_or_turns_good f.some_value)

pub returns-clause-three_sweeps : goal.returns-clause-three_sweeps
returns-clause-three_sweeps c = let g = c.stays_good.ensures in let f = c.fresh_value.ensures in three-sweeps-refresh g.front (stable-event g.stays g.front f.front f.front_stays_or_turns_good f.some_value)

pub returns-clause-sweep_copies : goal.returns-clause-sweep_copies
returns-clause-sweep_copies c = let g = c.stays_good.ensures in let f = c.fresh_value.ensures in sweep-copies g.front (stable-event g.stays g.front f.front f.front_stays_or_turns_good f.some_value)
