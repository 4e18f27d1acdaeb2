-- The rows of a node and of all under it.
use Rattle.std.proofs.Common.{◌≡◌, ◌++◌, ◌-◌, ◌≤◌, ℕ, zero, suc, List, [], ◌∷◌, length, refl, arith, append_assoc}
use Rattle.status_readings.specs.declared.answers.NodeAnswer.{NodeAnswer}
use Rattle.status_readings.specs.declared.tree.Row.{Row}
use Rattle.status_readings.specs.Tree.{below, child_rows}

-- with room for one more, the node's own row stands in front of those of its children
pub below-at : (all : List NodeAnswer) (left : ℕ) (answer : NodeAnswer) → 1 ≤ left
    → below all left answer
    ≡ (record { depth = length all - left; answer = answer }) ∷ child_rows (below all (left - 1)) answer.node all
below-at all zero answer some = absurd (omega (arith, some))
below-at all (suc left) answer some = let e : suc left - 1 ≡ left = omega arith in rw e refl

-- what was there with that row after it, and the rows of the children, are all
pub begun : (old new : List Row) (all : List NodeAnswer) (left : ℕ) (answer : NodeAnswer) (depth : ℕ) → 1 ≤ left
    → depth ≡ length all - left → new ≡ old ++ ((record { depth = depth; answer = answer }) ∷ [])
    → old ++ below all left answer ≡ new ++ child_rows (below all (left - 1)) answer.node all
begun old new all left answer depth some deep is =
    rw (below-at all left answer some, is, deep, append_assoc) refl
