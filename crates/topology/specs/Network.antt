-- A network, its walks and distances, when it is accepted, and the numbers that follow from its
-- size. A network is a finite undirected graph whose nodes are 0 to n-1; walks and distances are
-- those of graph theory. The spanning tree by distances from a root, and its smallest parents, are
-- those of Dolev, Israeli and Moran (Self-stabilization of dynamic systems assuming only read/write
-- atomicity, 1993) and Dolev (Self-Stabilization, 2000).
use Rattle.std.specs.Prelude.{◌≡◌, ◌≢◌, ℕ, ◌+◌, ◌-◌, ◌*◌, ◌<◌, ◌≤◌, Bool, ◌&&◌, ◌||◌, ◌==◌, IsTrue, List, [], ◌∷◌, ◌++◌, length, filter, All, false, not}
use Rattle.std.specs.List.{list_any, range_with_len}

-- an edge by its two ends
abbrev pub Edge : Type 0
Edge = ℕ × ℕ

-- how many nodes there are, which of them is the root, how many items a link holds, the most ticks
-- for which the lock is lent, and the edges
pub record Network : Type 0 where
  pub nodes : ℕ
  pub root : ℕ
  pub capacity : ℕ
  pub lease : ℕ
  pub edges : List Edge

-- the network with these numbers and edges
abbrev pub network_by : ℕ → ℕ → ℕ → ℕ → List Edge → Network
network_by n r c l es = record { nodes = n; root = r; capacity = c; lease = l; edges = es }

-- the edge joins the two nodes, either way round
abbrev pub is_between : ℕ → ℕ → Edge → Bool
is_between v w e = (e.0 == v && e.1 == w) || (e.0 == w && e.1 == v)

-- an edge joins the two nodes
abbrev pub are_joined : List Edge → ℕ → ℕ → Bool
are_joined edges v w = list_any (is_between v w) edges

-- the neighbours of a node among n nodes, ascending
abbrev pub neighbours_in : ℕ → List Edge → ℕ → List ℕ
neighbours_in n edges v = filter (are_joined edges v) (range_with_len 0 n)

-- the neighbours of a node, ascending
abbrev pub neighbours_of : Network → ℕ → List ℕ
neighbours_of net v = neighbours_in net.nodes net.edges v

-- ws are the nodes of a walk from u to v, in order and without u: each is joined to the one before,
-- and the walk's length is that of ws
abbrev pub IsWalk : List Edge → ℕ → List ℕ → ℕ → Type 0
IsWalk edges u [] v = u ≡ v
IsWalk edges u (w ∷ ws) v = IsTrue (are_joined edges u w) × IsWalk edges w ws v

-- the distance of v is the least length of a walk from the root to v
pub record IsDistance (net : Network) (v distance : ℕ) : Type 0 where
  pub walk : (ws : List ℕ) × IsWalk net.edges net.root ws v × (length ws ≡ distance)
  pub least : (ws : List ℕ) → IsWalk net.edges net.root ws v → distance ≤ length ws

-- p is a neighbour of v, and one nearer to the root
pub record IsNearer (net : Network) (v p : ℕ) : Type 0 where
  pub joined : IsTrue (are_joined net.edges v p)
  pub distance : ℕ
  pub of_nearer : IsDistance net p distance
  pub of_node : IsDistance net v (distance + 1)

-- the true parent of v is the neighbour of smallest id that is one nearer
pub record IsTrueParent (net : Network) (v p : ℕ) : Type 0 where
  pub nearer : IsNearer net v p
  pub smallest : (q : ℕ) → IsNearer net v q → p ≤ q

-- the edge has two different ends, both of them below n
pub record IsEdgeBelow (n : ℕ) (e : Edge) : Type 0 where
  pub first : e.0 < n
  pub second : e.1 < n
  pub no_loop : e.0 ≢ e.1

-- the two edges have the same ends, either way round
abbrev pub is_same_edge : Edge → Edge → Bool
is_same_edge e f = is_between e.0 e.1 f

-- some edge is listed twice, either way round
abbrev pub has_double_edge : List Edge → Bool
has_double_edge [] = false
has_double_edge (e ∷ es) = list_any (is_same_edge e) es || has_double_edge es

-- the network with one more edge, the last
abbrev pub joined_net : Network → ℕ → ℕ → Network
joined_net net u v = record net { edges = net.edges ++ (u, v) ∷ [] }

-- the edges that do not join the two; the others stay in their order
abbrev pub edges_without : List Edge → ℕ → ℕ → List Edge
edges_without edges u v = filter (λ e. not (is_between u v e)) edges

-- the network without the edge that joins the two
abbrev pub parted_net : Network → ℕ → ℕ → Network
parted_net net u v = record net { edges = edges_without net.edges u v }

-- each node has a walk from the root
abbrev pub IsConnected : Network → Type 0
IsConnected net = (v : ℕ) → v < net.nodes → (ws : List ℕ) × IsWalk net.edges net.root ws v

-- the numbers are within their ranges, and the graph has no loop and no double edge
pub record IsWithinLimits (net : Network) : Type 0 where
  pub two : 2 ≤ net.nodes
  pub most : net.nodes ≤ 64
  pub few_edges : length net.edges ≤ 256
  pub root_in : net.root < net.nodes
  pub some_capacity : 1 ≤ net.capacity
  pub most_capacity : net.capacity ≤ 4096
  pub most_lease : net.lease ≤ 65535
  pub edges_in : All (IsEdgeBelow net.nodes) net.edges
  pub no_double : has_double_edge net.edges ≡ false

-- a network that can be served: within the limits, and connected
pub record IsAcceptedNetwork (net : Network) : Type 0 where
  pub limits : IsWithinLimits net
  pub connected : IsConnected net

-- the modulus of a link's counters. The numbers of one direction of an edge, its sender's, its
-- receiver's, and those of the items and acknowledgements under way, are at most 2C+2 places with C
-- items a link, and such a ring of copies settles if there are more values than places (Dijkstra
-- 1974)
abbrev pub counter_of : Network → ℕ
counter_of net = 2 * net.capacity + 3

-- the modulus of the ring values. The tour of the tree goes along 2(n-1) directed edges with three
-- places each, so 6(n-1) places, and again one value more
abbrev pub ring_of : Network → ℕ
ring_of net = 6 * (net.nodes - 1) + 1

-- the sweeps after which the system is legitimate: 4(C+1) until the links count correctly, 4 for
-- each distance and 4 for the parents until the tree stands, 8(n-1) for each of the ring's 6(n-1)
-- steps, and one until no loan is left without the privilege
abbrev pub bound_of : Network → ℕ
bound_of net =
    4 * (net.capacity + 1) + 4 * (net.nodes + 1) + 48 * (net.nodes - 1) * (net.nodes - 1) + 1
