-- One step of the breadth-first tree: what a node reads off its copies of its neighbours'
-- distances. A copy is read as a function of the neighbour's id, and neighbours are in ascending
-- order. The rule is that of Dolev, Israeli and Moran (1993); that the smallest id wins a tie is
-- this project's own rule.
use Rattle.std.specs.Prelude.{ℕ, ◌+◌, min, Bool, List, [], ◌∷◌, if◌then◌else◌, nat_le, Option, None, find}
use Rattle.std.specs.List.{list_all}

-- the least of n and the copied distances of the listed neighbours
abbrev pub least : ℕ → (ℕ → ℕ) → List ℕ → ℕ
least n copied [] = n
least n copied (w ∷ ws) = min (copied w) (least n copied ws)

-- the root is at distance 0; any other node is one further than its least copy, and at most n
abbrev pub new_distance : Bool → ℕ → (ℕ → ℕ) → List ℕ → ℕ
new_distance is_root n copied neighbours =
    if is_root then 0 else min n (least n copied neighbours + 1)

-- no listed neighbour has a lesser copy than w
abbrev pub has_least_copy : (ℕ → ℕ) → List ℕ → ℕ → Bool
has_least_copy copied neighbours w = list_all (λ u. nat_le (copied w) (copied u)) neighbours

-- the root has no parent; any other node's parent is the first neighbour with the least copy, so
-- the one of smallest id
abbrev pub new_parent : Bool → (ℕ → ℕ) → List ℕ → Option ℕ
new_parent is_root copied neighbours =
    if is_root then None else find (has_least_copy copied neighbours) neighbours
