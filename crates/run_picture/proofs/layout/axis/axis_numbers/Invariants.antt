use Rattle.std.proofs.Common.{◌≡◌, ◌-◌, ◌++◌}
use Rattle.run_picture.specs.Axis.{axis_numbers}
use Rattle.run_picture.proofs.Axis.{ahead, IsHeld}
use Rattle.run_picture.proofs.layout.axis.axis_numbers.Given as goal

-- with those that are still to come, the numbers are all
abbrev pub invariant-loop : goal.invariant-loop
invariant-loop l =
    (l.numbers.items ++ ahead l.columns l.first l.moments l.step l.next (l.columns - l.counter)
    ≡ axis_numbers l.columns l.first l.moments l.step)
    × IsHeld l.next
