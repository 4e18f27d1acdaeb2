-- Where the events lead that set up a network in the state of a world.
use Rattle.std.specs.Prelude.{◌≡◌, ℕ, ◌<◌, IsTrue, [], replicate}
use Rattle.topology.specs.Network.{Network, IsAcceptedNetwork, are_joined}
use Rattle.node_follower.specs.Following.{AreSame}
use Rattle.configuration.specs.run_model.SameFrame.{IsSameFrame}
use Rattle.configuration.specs.run_model.World.{World, IsWorldInRange, site}
use Rattle.configuration.specs.run_model.Start.{world_with_spares}
use Rattle.configuration.specs.run_model.Run.{run}
use Rattle.record_gathering.specs.Facts.{edge_facts, set_events, set_up}

-- each node is in the same state as in a world, and each link holds what it holds there
pub record IsSameAs (w new : World) : Type 0 where
  pub nodes : (v : ℕ) → v < w.net.nodes → AreSame (site w v).neighbours (new.node v) (w.node v)
  pub links : (u v : ℕ) → IsTrue (are_joined w.net.edges u v) → new.link u v ≡ w.link u v

-- the same nodes are joined
abbrev pub HasEdgesOf : World → World → Type 0
HasEdgesOf w new = (u v : ℕ) → are_joined new.net.edges u v ≡ are_joined w.net.edges u v

-- the network as it starts, once it has the edges of a world, as far as they may join and part
abbrev pub with_edges_of : Network → ℕ → World → World
with_edges_of net pairs w =
    run (world_with_spares net pairs) (set_events (world_with_spares net pairs) (replicate net.nodes []) (edge_facts net w.net))

-- A network is set up like a world in range, with the same nodes, root, capacity and lease. If the
-- same nodes are joined once its edges are set, it is in the state of that world. The same nodes
-- are joined if the network of that world is the network itself.
pub record SetUpsAreReached : Type 0 where
  pub reached : (network pairs : ℕ) (net : Network) (w : World) → IsAcceptedNetwork net → IsWorldInRange w
      → IsSameFrame net w.net → HasEdgesOf w (with_edges_of net pairs w)
      → IsSameAs w (run (world_with_spares net pairs) (set_up network net pairs w))
  pub unchanged : (pairs : ℕ) (net : Network) (w : World) → w.net ≡ net → HasEdgesOf w (with_edges_of net pairs w)
