use Rattle.std.proofs.Common.{◌≡◌, ℕ, ◌∷◌, Contains, take}
use Rattle.bfs_tree.proofs.Nearest.{IsFirstLeast}
use Rattle.bfs_tree.proofs.step.recompute.Given as goal

-- by any reading of the copies that the closure keeps to
abbrev pub invariant-loop-neighbour : goal.invariant-loop-neighbour
invariant-loop-neighbour g l = (copied : ℕ → ℕ) → ((w d : ℕ) → Contains l.fn.neighbours w → goal.F-post g l.fn.copied w d → d ≡ copied w)
    → IsFirstLeast copied (l.first ∷ take l.neighbour-index l.rest) l.parent × (l.least ≡ copied l.parent)
