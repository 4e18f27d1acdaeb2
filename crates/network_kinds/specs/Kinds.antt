-- The usual graphs, each given by the pairs of nodes that an edge joins, as in any book on graphs.
use Rattle.std.specs.Prelude.{ℕ, ◌+◌, ◌*◌, ◌%◌, zero, suc, Bool, true, false, not, ◌&&◌, ◌||◌, ◌==◌, nat_lt, List, [], ◌∷◌, ◌++◌, filter}
use Rattle.topology.specs.Network.{Edge}
use Rattle.network_kinds.specs.declared.kind.Kind.{Kind}
use Rattle.network_kinds.specs.declared.kind.Kind.TheVariants.{Line, Ring, Star, Complete, Tree, Grid, Random}

-- An edge joins two of n nodes, the first with the smaller id. Line: the second is the next one.
-- Ring: the same, or the two are the first and the last node. Star: the first is node 0. Complete:
-- any two. Tree: the second is a child of the first; the children of u are 2u+1 and 2u+2. Grid: the
-- second is below the first, or beside it in the same row. A random graph has no such rule.
abbrev pub is_edge : Kind → ℕ → Edge → Bool
is_edge Line n e = e.1 == e.0 + 1
is_edge Ring n e = e.1 == e.0 + 1 || (e.0 == 0 && e.1 + 1 == n)
is_edge Star n e = e.0 == 0
is_edge Complete n e = true
is_edge Tree n e = e.1 == 2 * e.0 + 1 || e.1 == 2 * e.0 + 2
is_edge (Grid columns) n e =
    e.1 == e.0 + columns || (e.1 == e.0 + 1 && (nat_lt 0 columns && not (e.1 % columns == 0)))
is_edge (Random edges seed) n e = false

-- a ring has at least three nodes, any other kind two
abbrev pub least_nodes : Kind → ℕ
least_nodes Ring = 3
least_nodes _ = 2

-- a complete graph of 23 nodes has 253 edges, and one of 24 nodes more than a network may have
abbrev pub most_nodes : Kind → ℕ
most_nodes Complete = 23
most_nodes _ = 64

-- node v with each of the first k nodes
abbrev pub pairs_with : ℕ → ℕ → List Edge
pairs_with v zero = []
pairs_with v (suc k) = pairs_with v k ++ (k, v) ∷ []

-- all pairs of n nodes, the smaller id first: for each node in turn, its pairs with the nodes
-- before it
abbrev pub pairs : ℕ → List Edge
pairs zero = []
pairs (suc n) = pairs n ++ pairs_with n n

-- the edges on n nodes: the pairs that an edge joins
abbrev pub regular_edges : Kind → ℕ → List Edge
regular_edges kind n = filter (is_edge kind n) (pairs n)
