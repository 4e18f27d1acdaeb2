-- The tree neighbours of a node, and their order round it: ascending ids, and after the largest the
-- smallest. An Euler tour of a tree leaves a node towards the tree neighbour after the one that it
-- came in from.
use Rattle.std.specs.Prelude.{ℕ, ◌==◌, ◌||◌, Bool, false, List, [], ◌∷◌, if◌then◌else◌, nat_lt, Option, Some, None, filter, unwrap_or}
use Rattle.std.specs.List.{list_any}

-- the parent is the node
abbrev pub is_named : Option ℕ → ℕ → Bool
is_named None v = false
is_named (Some p) v = p == v

-- w is on the list
abbrev pub is_on : List ℕ → ℕ → Bool
is_on ts w = list_any (λ t. t == w) ts

-- an edge of the tree joins v and its neighbour w, by v's own word and its copies: w is v's parent,
-- or names v as its parent
abbrev pub is_tree_neighbour : Option ℕ → ℕ → (ℕ → Option ℕ) → ℕ → Bool
is_tree_neighbour parent v copied_parent w = is_named parent w || is_named (copied_parent w) v

-- the tree neighbours of v among its neighbours
abbrev pub tree_neighbours : Option ℕ → ℕ → List ℕ → (ℕ → Option ℕ) → List ℕ
tree_neighbours parent v neighbours copied_parent =
    filter (is_tree_neighbour parent v copied_parent) neighbours

-- the smallest of an ascending list is its first
abbrev pub lowest : List ℕ → Option ℕ
lowest [] = None
lowest (t ∷ ts) = Some t

-- the largest of an ascending list is its last
abbrev pub highest : List ℕ → Option ℕ
highest [] = None
highest (t ∷ ts) = Some (unwrap_or (highest ts) t)

-- those of a list that are above t, and those below
abbrev pub above : ℕ → List ℕ → List ℕ
above t ts = filter (nat_lt t) ts

abbrev pub below : ℕ → List ℕ → List ℕ
below t ts = filter (λ u. nat_lt u t) ts

-- the tree neighbour after t: the lowest above it, and after the highest the lowest of all
abbrev pub next_after : List ℕ → ℕ → ℕ
next_after ts t = unwrap_or (lowest (above t ts)) (unwrap_or (lowest ts) t)

-- the tree neighbour after which w comes: the highest below it, and before the lowest the highest
-- of all
abbrev pub source_for : List ℕ → ℕ → ℕ
source_for ts w = unwrap_or (highest (below w ts)) (unwrap_or (highest ts) w)

-- the special machine is the root's for its smallest tree neighbour; no other node has one, nor has
-- a root without tree neighbours
abbrev pub special : Bool → List ℕ → Option ℕ
special is_root ts = if is_root then lowest ts else None
