-- What a `Net` keeps besides its network: the neighbours and the distance of each node.
use Rattle.std.specs.Prelude.{◌≡◌, ℕ, ◌<◌, ◌≤◌, List, All, map, length, Vec, slice_index}
use Rattle.std.specs.Vec.{vec_capacity}
use Rattle.std.specs.List.{range_with_len}
use Rattle.topology.specs.declared.net.Net.TheInside.{Inside}
use Rattle.topology.specs.declared.layout.Layout.{Layout}
use Rattle.topology.specs.Network.{Network, network_by, Edge, neighbours_in, neighbours_of, IsDistance, IsAcceptedNetwork}
use Rattle.topology.specs.Spread.{IsSearched}

-- the network that a `Net` keeps
abbrev pub network_of : {A : Type 0} → Inside A → Network
network_of n = network_by n.nodes n.root n.capacity n.lease n.edges.items

-- rows as lists
abbrev pub rows_of : {A : Type 0} → List (Vec ℕ A) → List (List ℕ)
rows_of rows = map (λ row. row.items) rows

-- the kept lists and distances are those of the network
pub record IsLaidOut {A : Type 0} (net : Network) (neighbours : List (Vec ℕ A))
    (distances : List ℕ) : Type 0 where
  pub network : IsAcceptedNetwork net
  pub neighbours_are : rows_of neighbours ≡ map (neighbours_of net) (range_with_len 0 net.nodes)
  pub all_distances : length distances ≡ net.nodes
  pub distances_are : (v : ℕ) → v < net.nodes → IsDistance net v (slice_index distances v)

-- there is room for 256 edges, and in each node's list for all nodes, so that edges may join and
-- part without new memory
pub record HasRoom {A : Type 0} (nodes : ℕ) (edges : Vec Edge A)
    (neighbours : List (Vec ℕ A)) : Type 0 where
  pub for_edges : 256 ≤ vec_capacity edges
  pub for_neighbours : All (λ row. nodes ≤ vec_capacity row) neighbours

-- there is a list with room for all nodes, and a distance, for each node
pub record HasRowsFor {A : Type 0} (nodes : ℕ) (l : Layout A) : Type 0 where
  pub all_rows : length l.neighbours.items ≡ nodes
  pub room : All (λ row. nodes ≤ vec_capacity row) l.neighbours.items
  pub all_distances : length l.distances.items ≡ nodes

-- the neighbours of each node by the edges, in a list with room for all nodes, and what a search
-- from the root gives
pub record IsLayoutOf {A : Type 0} (nodes : ℕ) (edges : List Edge) (root : ℕ) (l : Layout A) : Type 0 where
  pub neighbours_are : rows_of l.neighbours.items ≡ map (neighbours_in nodes edges) (range_with_len 0 nodes)
  pub room : All (λ row. nodes ≤ vec_capacity row) l.neighbours.items
  pub all_distances : length l.distances.items ≡ nodes
  pub searched : IsSearched edges root l.distances.items
