use Rattle.std.proofs.Common.{◌≡◌, ◌+◌, drop}
use Rattle.recovery_times.specs.Reading.{point_at}
use Rattle.recovery_times.proofs.reading.point_at.Given as goal

abbrev pub invariant-loop-i : goal.invariant-loop-i
invariant-loop-i l = point_at l.word ≡ l.i + point_at (drop l.i l.word)
