use Rattle.std.proofs.Common.{◌≡◌, take}
use Rattle.run_recording.proofs.still.are_same.Given as goal

-- the first parts are the same
abbrev pub invariant-loop-k : goal.invariant-loop-k
invariant-loop-k g l = take l.k l.parts ≡ take l.k l.others
