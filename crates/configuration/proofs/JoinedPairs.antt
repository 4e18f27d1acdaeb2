-- Which pairs of nodes a list of edges joins, one pair at a time.
use Rattle.std.proofs.Common.{◌≡◌, ℕ, ◌==◌, ◌&&◌, ◌||◌, not, Bool, arith, List, [], ◌∷◌, ◌++◌}
use Rattle.std.proofs.lemmas.Grind.{common_steps}
use Rattle.std.proofs.lemmas.List.Folds.{list_any-append}
use Rattle.topology.specs.Network.{Edge, are_joined, is_between}
use Rattle.configuration.specs.Placed.{joined_too}

-- one pair fewer is joined
abbrev pub joined_but : (ℕ → ℕ → Bool) → ℕ → ℕ → ℕ → ℕ → Bool
joined_but is_joined a b u v = is_joined u v && not ((u == a) && (v == b))

-- an edge joins its two ends both ways
pub two-ways : (edges : List Edge) (e : Edge) (u v : ℕ) → joined_too (joined_too (are_joined edges) e.0 e.1) e.1 e.0 u v ≡ are_joined (edges ++ e ∷ []) u v
two-ways edges e u v =
    let one = list_any-append (is_between u v) edges (e ∷ []) in
    let sides : (((u == e.0) && (v == e.1)) || ((u == e.1) && (v == e.0))) ≡ is_between u v e = grind (arith, common_steps) in
    grind (arith, common_steps, one, sides)
