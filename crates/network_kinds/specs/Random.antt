-- A random connected graph: a random recursive tree, in which each node is joined to an earlier one, and
-- then further pairs, each drawn from those that are left.
use Rattle.std.specs.Prelude.{ℕ, ◌-◌, ◌%◌, zero, suc, Bool, not, List, [], ◌∷◌, ◌++◌, filter, length, get_or}
use Rattle.std.specs.List.{remove}
use Rattle.rand_core.specs.Pcg32Seed.{pcg32_seed}
use Rattle.rand_pcg.specs.Lcg.{Lcg}
use Rattle.rand_pcg.specs.Pcg.{pcg32, pcg32_of_seed}
use Rattle.topology.specs.Network.{Edge, are_joined}
use Rattle.network_kinds.specs.Kinds.{pairs}

-- the next word modulo k, and the generator after it
unfoldable pub draw : ℕ → Lcg → ℕ × Lcg
draw k g = ((pcg32 g).0 % k, (pcg32 g).1)

-- the generator of a seed
abbrev pub seeded : ℕ → Lcg
seeded seed = pcg32_of_seed (pcg32_seed 16 seed)

-- nodes 1 to k, each joined to an earlier one that is drawn; and the generator after them
abbrev pub tree_edges : ℕ → Lcg → List Edge × Lcg
tree_edges zero g = ([], g)
tree_edges (suc k) g =
    let before = tree_edges k g in
    let earlier = draw (suc k) before.1 in
    (before.0 ++ (earlier.0, suc k) ∷ [], earlier.1)

-- none of the edges joins the two nodes of the pair
abbrev pub is_unjoined : List Edge → Edge → Bool
is_unjoined edges e = not (are_joined edges e.0 e.1)

-- the pairs of n nodes that none of the edges joins
abbrev pub unjoined : ℕ → List Edge → List Edge
unjoined n edges = filter (is_unjoined edges) (pairs n)

-- this many edges, each drawn from the pairs that are left; fewer if the pairs run out
abbrev pub further_edges : ℕ → List Edge → Lcg → List Edge
further_edges zero left g = []
further_edges (suc count) [] g = []
further_edges (suc count) (e ∷ es) g =
    let left = e ∷ es in
    let at = draw (length left) g in
    get_or left at.0 (0, 0) ∷ further_edges count (remove left at.0) at.1

-- the edges of a random graph of n nodes: a tree, and then further ones, until there are `edges` or
-- no pair is left
abbrev pub random_edges : ℕ → ℕ → ℕ → List Edge
random_edges n edges seed =
    let tree = tree_edges (n - 1) (seeded seed) in
    tree.0 ++ further_edges (edges - (n - 1)) (unjoined n tree.0) tree.1
