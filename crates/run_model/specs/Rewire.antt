-- What becomes of the world if one edge joins or goes while the service runs. A network whose
-- edges change is the dynamic system of Dolev, Israeli and Moran (1993). Each change is a
-- transient fault, and the system recovers from it as from any other.
use Rattle.std.specs.Prelude.{ℕ, ◌+◌, ◌-◌, ◌&&◌, ◌==◌, Bool, not, nat_lt, [], length}
use Rattle.link_model.specs.topology.At.{at}
use Rattle.link_model.specs.topology.Network.{Network, are_joined, neighbours_of, joined_net, parted_net}
use Rattle.link_model.specs.topology.Ranges.{ranges_of}
use Rattle.link_model.specs.topology.Tree.{is_connected}
use Rattle.node_core.specs.State.{LocalState}
use Rattle.node_core.specs.Rewire.{rewired}
use Rattle.run_model.specs.World.{World, at_pair}

-- one more edge may join two nodes of the network: they differ, no edge joins them, and there are
-- fewer than 256 edges
abbrev pub can_join : Network → ℕ → ℕ → Bool
can_join net u v = not (u == v) && (not (are_joined net.edges u v) && nat_lt (length net.edges) 256)

-- an edge of the network, between these two, may go: without it each node still has a walk from the
-- root
abbrev pub can_part : Network → ℕ → ℕ → Bool
can_part net u v = is_connected (parted_net net u v)

-- the node v with its neighbours in another network of as many nodes: its data for a neighbour that
-- stays is kept, and all other data for neighbours is as at the start
abbrev pub node_in : World → Network → ℕ → LocalState
node_in w net v = rewired (ranges_of w.net) (neighbours_of w.net v) (neighbours_of net v) (w.node v)

-- the world in a network that gains or loses the edge between u and v: both have their new
-- neighbours, nothing is under way between them, and `spares` pairs of links are spare
abbrev pub world_in : World → Network → (u v spares : ℕ) → World
world_in w net u v spares = record {
  net = net;
  spares = spares;
  node = at (at w.node u (node_in w net u)) v (node_in w net v);
  link = at_pair (at_pair w.link u v []) v u [];
}

-- an edge joins u and v, by the links of a spare pair
abbrev pub with_edge : World → ℕ → ℕ → World
with_edge w u v = world_in w (joined_net w.net u v) u v (w.spares - 1)

-- the edge between u and v goes, and its links become a spare pair
abbrev pub without_edge : World → ℕ → ℕ → World
without_edge w u v = world_in w (parted_net w.net u v) u v (w.spares + 1)
