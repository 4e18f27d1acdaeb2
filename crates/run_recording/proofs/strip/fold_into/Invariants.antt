use Rattle.std.proofs.Common.{◌≡◌, ◌+◌, ◌≤◌, ◌++◌, length}
use Rattle.std.specs.Vec.{vec_capacity}
use Rattle.run_recording.specs.Columns.{folded}
use Rattle.run_recording.proofs.strip.fold_into.Given as goal

-- the folded columns, then those that are left
abbrev pub invariant-loop-rest : goal.invariant-loop-rest
invariant-loop-rest g l =
    (folded l.columns ≡ l.spare.items ++ folded l.rest)
    × (length l.spare.items + length l.rest ≤ vec_capacity l.spare)
    × (vec_capacity l.spare ≡ vec_capacity l.fn.spare)

abbrev pub decreases-loop-rest : goal.decreases-loop-rest
decreases-loop-rest g l = length l.rest
