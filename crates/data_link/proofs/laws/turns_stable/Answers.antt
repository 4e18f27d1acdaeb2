use Rattle.std.proofs.Common.{arith, ◌+◌, ◌*◌}
use Rattle.data_link.proofs.Stable.{stable-after_moves}
use Rattle.data_link.proofs.Sweeping.{sweeps-move}
use Rattle.data_link.proofs.laws.turns_stable.Goals as goal

pub returns-clause-after_moves : goal.returns-clause-after_moves
returns-clause-after_moves c =
    let g = c.stays_good.ensures in
    let f = c.fresh_value.ensures in
    stable-after_moves g.stays g.front f.front f.front_stays_or_turns_good f.some_value f.first_move

pub returns-clause-after_sweeps : goal.returns-clause-after_sweeps
returns-clause-after_sweeps c = λ capacity s es r w.
    let g = c.stays_good.ensures in
    let f = c.fresh_value.ensures in
    stable-after_moves g.stays g.front f.front f.front_stays_or_turns_good f.some_value f.first_move capacity s es r
    (sweeps-move capacity (2 * capacity + 2) (4 * (capacity + 1)) s es (omega arith) w)
