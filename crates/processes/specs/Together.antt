-- What is asked of nodes that run as processes of their own, and of the links between them.
use Rattle.std.specs.Prelude.{◌≡◌, ℕ, ◌≤◌, List, [], IsTrue, IsFalse}
use Rattle.topology.specs.Network.{are_joined}
use Rattle.topology.specs.declared.frame.Frame.{Frame}
use Rattle.node_core.specs.Site.{site_of}
use Rattle.run_model.specs.World.{World}
use Rattle.node_core.specs.Deeds.{Leads}
use Rattle.processes.specs.Accounts.{Timed, deeds, AreInTime}
use Rattle.topology.specs.Ranges.{ranges_of}
use Rattle.frame_codec.specs.Lines.{good_lines}
use Rattle.processes.specs.Links.{Act, accepts_in, gives_in, IsHistory}
use Rattle.processes.specs.Connections.{Ended, as_items, IsLinkOfBytes, history_over, left_over}

-- From the one world to the other each node went by its own steps, as its account says, and each
-- link did what its history says. The stretch is without damage: nothing wrote into a node or on a
-- link from outside, no node began again, and no edge came or went; after any of these a new
-- stretch begins.
pub record AreProcesses (w : World) (account : ℕ → List Timed) (history : ℕ → ℕ → List Act)
    (last : World) : Type 0 where
  pub network : last.net ≡ w.net
  pub spares : last.spares ≡ w.spares
  pub in_time : (v : ℕ) → AreInTime (account v)
  pub nodes : (v : ℕ) → Leads (site_of w.net v) (deeds (account v)) (w.node v) (last.node v)
  pub nobody : (v : ℕ) → w.net.nodes ≤ v → account v ≡ []
  pub links : (u v : ℕ) → IsTrue (are_joined w.net.edges u v)
      → IsHistory w.net.capacity (w.link u v) (accepts_in v (account u)) (gives_in u (account v))
      (history u v) (last.link u v)
  pub nowhere : (u v : ℕ) → IsFalse (are_joined w.net.edges u v)
      → (history u v ≡ []) × (last.link u v ≡ w.link u v)

-- What each link was in bytes: what stood on it at the start, its connections that ended, and what
-- happened on the last one.
pub record Wires : Type 0 where
  pub junk : ℕ → ℕ → List ℕ
  pub ended : ℕ → ℕ → List Ended
  pub acts : ℕ → ℕ → List Act

-- the frames whose lines stand on the link from u to v at the start
abbrev pub frames_at_first : World → Wires → ℕ → ℕ → List Frame
frames_at_first w wires u v = good_lines (ranges_of w.net) (wires.junk u v)

-- what happened on the link from u to v
abbrev pub history_on : World → Wires → ℕ → ℕ → List Act
history_on w wires u v =
    history_over (frames_at_first w wires u v) (wires.ended u v) (wires.acts u v)

-- The same for links that were one connection of bytes after another: the frames under way at the
-- start are those whose lines stand on it, and at the end those that are left on its last
-- connection.
pub record AreProcessesOverBytes (w : World) (account : ℕ → List Timed) (wires : Wires)
    (last : World) : Type 0 where
  pub network : last.net ≡ w.net
  pub spares : last.spares ≡ w.spares
  pub in_time : (v : ℕ) → AreInTime (account v)
  pub nodes : (v : ℕ) → Leads (site_of w.net v) (deeds (account v)) (w.node v) (last.node v)
  pub nobody : (v : ℕ) → w.net.nodes ≤ v → account v ≡ []
  pub first : (u v : ℕ) → IsTrue (are_joined w.net.edges u v)
      → w.link u v ≡ as_items (frames_at_first w wires u v)
  pub links : (u v : ℕ) → IsTrue (are_joined w.net.edges u v)
      → IsLinkOfBytes (ranges_of w.net) w.net.capacity (wires.junk u v)
      (accepts_in v (account u)) (gives_in u (account v)) (wires.ended u v) (wires.acts u v)
  pub left : (u v : ℕ) → IsTrue (are_joined w.net.edges u v)
      → last.link u v
      ≡ as_items (left_over (frames_at_first w wires u v) (wires.ended u v) (wires.acts u v))
  pub nowhere : (u v : ℕ) → IsFalse (are_joined w.net.edges u v)
      → (wires.ended u v ≡ []) × (wires.acts u v ≡ []) × (last.link u v ≡ w.link u v)
