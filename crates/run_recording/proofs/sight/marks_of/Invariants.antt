use Rattle.std.proofs.Common.{◌≡◌, length, take, map}
use Rattle.run_recording.specs.Seen.{mark_of_look}
use Rattle.run_recording.proofs.sight.marks_of.Given as goal

-- the marks of the first `v` looks are written
abbrev pub invariant-loop-v : goal.invariant-loop-v
invariant-loop-v l =
    (take l.v l.marks ≡ take l.v (map mark_of_look l.looks))
    × (length l.marks ≡ 64)
