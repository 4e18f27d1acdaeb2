use Rattle.std.proofs.Common.{◌≡◌, ◌++◌, take, drop}
use Rattle.run_recording.specs.Marks.{worse_marks}
use Rattle.run_recording.proofs.column.worse_marks.Given as goal

-- the first marks are the worse ones, the others are still the earlier ones
abbrev pub invariant-loop-v : goal.invariant-loop-v
invariant-loop-v l = l.worst ≡ worse_marks (take l.v l.marks) (take l.v l.later) ++ drop l.v l.marks
