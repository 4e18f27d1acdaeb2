use Rattle.data_link.proofs.SixSweeps.{six-sweeps}
use Rattle.data_link.proofs.laws.six_sweeps.Goals as goal

pub returns : goal.returns
returns c =
    let a = c.ages.ensures in
    let g = c.stays_good.ensures in
    let f = c.fresh_value.ensures in
    six-sweeps a.start a.next g.stays g.front f.front f.front_stays_or_turns_good f.some_value f.first_move
