-- What a node hears: connections come, frames come on them, and clients ask and leave.
use Rattle.std.specs.Prelude.{◌≡◌, ◌≢◌, ℕ, List, slice_get, Option, []}
use Rattle.topology.specs.declared.frame.Frame.{Frame}
use Rattle.node_core.specs.View.{NodeView, site_in}
use Rattle.node_connections.specs.socket_links.Counts.{Counts}
use Rattle.node_connections.specs.declared.port.NodePort.{NodePort}
use Rattle.node_service.specs.Deeds.{Became, IsOfClient, IsTake, taken_from}
use Rattle.node_connections.specs.Ports.{AtBoth}
use Rattle.node_loop.specs.Moments.{Moment}
use Rattle.node_loop.specs.Remembering.{Remembers}
use Rattle.node_connections.specs.Hearing.{AreWired, Pulls}

-- The node took frames of one neighbour alone, exactly those that came at its port; no other port
-- changed.
pub record TakesAt {P : Type 0} (R : List Frame → NodePort P → NodePort P → Type 0) (id : ℕ)
    (old new : NodeView) (ports pulled : List (NodePort P)) : Type 0 where
  pub takes : Became IsTake old new
  pub at_port : AtBoth (R (taken_from id takes.deeds)) (slice_get ports id) (slice_get pulled id)
  pub others : (w : ℕ) → w ≢ id
      → (taken_from w takes.deeds ≡ []) × (slice_get pulled w ≡ slice_get ports w)

-- The node took frames, and at each port exactly those that were pulled there.
pub record Hears {P : Type 0} (gave took : P → Option (List ℕ)) (counts : P → Counts)
    (old new : NodeView) (ports pulled : List (NodePort P)) : Type 0 where
  pub takes : Became IsTake old new
  pub pulls : (w : ℕ)
      → AtBoth (Pulls (site_in old).ranges gave took counts (taken_from w takes.deeds))
      (slice_get ports w) (slice_get pulled w)

-- Connections came; then the node took the frames that came on them; then its clients asked and
-- left. Throughout, what a port was given last is remembered, or no frame is.
pub record Listens {P : Type 0} (gave took : P → Option (List ℕ)) (counts : P → Counts)
    (old new : Moment P) : Type 0 where
  pub wired : List (NodePort P)
  pub heard : NodeView
  pub wires : AreWired old.ports wired
  pub hears : Hears gave took counts old.node heard wired new.ports
  pub serves : Became IsOfClient heard new.node
  pub remembers : Remembers old.pace new.pace
