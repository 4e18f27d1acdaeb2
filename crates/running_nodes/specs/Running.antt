-- Nodes that run, and the pipes between them.
use Rattle.std.specs.Prelude.{◌≡◌, ℕ, ◌<◌, ◌≤◌, List, [], Option, Some, IsTrue, IsFalse, slice_get}
use Rattle.topology.specs.Network.{are_joined}
use Rattle.topology.specs.Ranges.{ranges_of}
use Rattle.node_core.specs.Site.{site_of}
use Rattle.node_core.specs.View.{site_in, state_of}
use Rattle.run_model.specs.World.{World}
use Rattle.node_core.specs.Deeds.{taken_from, sent_to}
use Rattle.socket_links.specs.Counts.{Counts}
use Rattle.node_loop.specs.Moments.{Moment}
use Rattle.node_loop.specs.node_connections.declared.port.NodePort.{NodePort}
use Rattle.processes.specs.Accounts.{Timed, deeds, AreInTime}
use Rattle.processes.specs.Links.{accepts_in, gives_in}
use Rattle.processes.specs.Connections.{as_items, left_over}
use Rattle.processes.specs.Together.{Wires, frames_at_first}
use Rattle.running_nodes.specs.Pipes.{Ends, IsLinkOfPipes}
use Rattle.running_nodes.specs.Stood.{Start, Stood, PortWas, StartsAt}
use Rattle.running_nodes.specs.Stretches.{Went, Goes, all_deeds}

-- What the nodes of a world did: how each was at first, its turns, how it was at last, and what the
-- pipe of each of its ports had given and taken at first.
pub record Runs (P : Type 0) : Type 0 where
  pub first : ℕ → Moment P
  pub turns : ℕ → List (Went P)
  pub end : ℕ → Moment P
  pub start : ℕ → ℕ → Start

module _ {P : Type 0} (gave took : P → Option (List ℕ)) where
  -- The port exists, and what its link keeps at first is what its pipe gave, and has yet to write.
  pub record BeginsAt (w : World) (runs : Runs P) (u v : ℕ) : Type 0 where
    pub port : NodePort P
    pub there : slice_get (runs.first u).ports v ≡ Some port
    pub starts : StartsAt (ranges_of w.net) gave took (runs.start u v) port.link

  -- From the one world to the other each node went by its turns. Its account has their deeds, in
  -- their order, each at an instant.
  pub record AreNodeRuns (counts : P → Counts) (w : World) (runs : Runs P)
      (account : ℕ → List Timed) (last : World) : Type 0 where
    pub network : last.net ≡ w.net
    pub spares : last.spares ≡ w.spares
    pub sites : (v : ℕ) → v < w.net.nodes → site_in (runs.first v).node ≡ site_of w.net v
    pub states : (v : ℕ) → v < w.net.nodes → state_of (runs.first v).node ≡ w.node v
    pub go : (v : ℕ) → v < w.net.nodes
        → Goes gave took counts (runs.first v) (runs.turns v) (runs.end v)
    pub lasts : (v : ℕ) → v < w.net.nodes → last.node v ≡ state_of (runs.end v).node
    pub begin : (u v : ℕ) → IsTrue (are_joined w.net.edges u v) → BeginsAt w runs u v
    pub deeds_are : (v : ℕ) → v < w.net.nodes → deeds (account v) ≡ all_deeds (runs.turns v)
    pub in_time : (v : ℕ) → AreInTime (account v)
    pub nobody : (v : ℕ) → w.net.nodes ≤ v → (account v ≡ []) × (last.node v ≡ w.node v)

  -- the connections of each node's port to each of its neighbours
  abbrev pub AreConnections : World → Runs P → (ℕ → ℕ → List (Stood P)) → Type 0
  AreConnections w runs stood =
      (u v : ℕ) → IsTrue (are_joined w.net.edges u v)
      → PortWas (ranges_of w.net) gave took (taken_from v (all_deeds (runs.turns u)))
      (sent_to v (all_deeds (runs.turns u))) (stood u v)

  -- What is asked of the pipes between them: each link is one of pipes, from the frames under way in
  -- the one world to those in the other.
  pub record ArePipes (w : World) (account : ℕ → List Timed) (stood : ℕ → ℕ → List (Stood P))
      (ends : ℕ → ℕ → List (Ends P)) (wires : Wires) (last : World) : Type 0 where
    pub first : (u v : ℕ) → IsTrue (are_joined w.net.edges u v)
        → w.link u v ≡ as_items (frames_at_first w wires u v)
    pub links : (u v : ℕ) → IsTrue (are_joined w.net.edges u v)
        → IsLinkOfPipes (ranges_of w.net) w.net.capacity gave took (wires.junk u v)
        (accepts_in v (account u)) (gives_in u (account v)) (wires.ended u v) (wires.acts u v)
        (ends u v) (stood u v) (stood v u)
    pub left : (u v : ℕ) → IsTrue (are_joined w.net.edges u v)
        → last.link u v
        ≡ as_items (left_over (frames_at_first w wires u v) (wires.ended u v) (wires.acts u v))
    pub nowhere : (u v : ℕ) → IsFalse (are_joined w.net.edges u v)
        → (wires.ended u v ≡ []) × (wires.acts u v ≡ []) × (last.link u v ≡ w.link u v)
