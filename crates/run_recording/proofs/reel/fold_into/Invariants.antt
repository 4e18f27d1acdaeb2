use Rattle.std.proofs.Common.{length}
use Rattle.std.specs.Vec.{vec_capacity}
use Rattle.run_recording.specs.Stills.{folded}
use Rattle.run_recording.proofs.Stills.{IsFoldedSoFar}
use Rattle.run_recording.proofs.reel.fold_into.Given as goal

abbrev pub invariant-loop-rest : goal.invariant-loop-rest
invariant-loop-rest g l = IsFoldedSoFar (folded l.all) l.stills l.spare.items l.rest (vec_capacity l.fn.spare) (vec_capacity l.spare)

abbrev pub decreases-loop-rest : goal.decreases-loop-rest
decreases-loop-rest g l = length l.rest
