-- What a node says to neighbours: on which ports a frame is offered, what becomes of it, and by
-- which plan.
use Rattle.std.specs.Prelude.{◌≡◌, ℕ, ◌<◌, Bool, false, nat_lt, is_some, List, ◌++◌, ◌∷◌, length, slice_get, slice_index_or, Option, All, Contains, if◌then◌else◌, []}
use Rattle.topology.specs.declared.frame.Frame.{Frame}
use Rattle.byte_lines.specs.Lines.{newline}
use Rattle.frame_codec.specs.Spelling.{spelling}
use Rattle.node_core.specs.data_link.Port.{frame_of}
use Rattle.node_core.specs.View.{NodeView, site_in, state_of}
use Rattle.node_core.specs.Machines.{payload_for}
use Rattle.pace.specs.Ports.{given_port, is_due}
use Rattle.pace.specs.Nodes.{holds, may_tick}
use Rattle.pace.specs.Plans.{port_of}
use Rattle.pace.specs.declared.node.Outlook.{Outlook}
use Rattle.pace.specs.declared.pace.Plan.{Plan}
use Rattle.pace.specs.declared.port.PortPace.{PortPace}
use Rattle.pace.specs.declared.port.PortSight.{PortSight}
use Rattle.node_connections.specs.socket_links.Counts.{Counts}
use Rattle.node_service.specs.Deeds.{Deed, IsSend, Leads, sent_to}
use Rattle.node_connections.specs.Ports.{AtBoth}
use Rattle.node_loop.specs.Moments.{Moment}
use Rattle.node_connections.specs.declared.port.NodePort.{NodePort}
use Rattle.node_connections.specs.Speaking.{PortSpeaks, takes_frames}

-- what is sent of a frame: that frame if it was accepted, and else nothing
abbrev pub sent_if : Bool → Frame → List Frame
sent_if is_taken frame = if is_taken then frame ∷ [] else []

-- The port spoke with the line of this frame. The pace notes a frame that was accepted, and nothing
-- else. What is sent is the frame if it was accepted, and else nothing.
pub record SpeaksTo {P : Type 0} (gave took : P → Option (List ℕ)) (counts : P → Counts)
    (frame : Frame) (is_offered : Bool) (now : ℕ) (was is : PortPace) (sent : List Frame)
    (old new : NodePort P) : Type 0 where
  pub is_taken : Bool
  pub port : PortSpeaks gave took counts (spelling frame ++ newline ∷ []) is_offered old new
      is_taken
  pub reported : is ≡ (if is_taken then given_port frame now was else was)
  pub sends : sent ≡ sent_if is_taken frame

-- The node spoke to each neighbour, and offered its frame on those ports that the plan names; no
-- other port has changed. What it sent are the frames that were accepted, and no others.
pub record Speaks {P : Type 0} (gave took : P → Option (List ℕ)) (counts : P → Counts)
    (offers : List Bool) (now : ℕ) (old new : Moment P) : Type 0 where
  pub sends : List Deed
  pub kinds : All IsSend sends
  pub leads : Leads (site_in old.node) sends (state_of old.node) (state_of old.node)
  pub neighbours : (w : ℕ) → w < (site_in old.node).ranges.nodes
      → Contains (site_in old.node).neighbours w
      → AtBoth (SpeaksTo gave took counts (frame_of ((state_of old.node).port w))
      (slice_index_or offers w false) now (port_of old.pace.ports w) (port_of new.pace.ports w)
      (sent_to w sends))
      (slice_get old.ports w) (slice_get new.ports w)
  pub others : (w : ℕ) → ¬ Contains (site_in old.node).neighbours w
      → (slice_get new.ports w ≡ slice_get old.ports w)
      × (port_of new.pace.ports w ≡ port_of old.pace.ports w)
  pub rest : (new.pace.node ≡ old.pace.node) × (new.pace.manner ≡ old.pace.manner)

-- what the node sees at its port to a neighbour
abbrev pub sight_at : {P : Type 0} → NodeView → List (NodePort P) → ℕ → PortSight
sight_at node ports w = record {
  takes_frames = takes_frames (slice_get ports w);
  frame = frame_of ((state_of node).port w);
  present = payload_for (site_in node) (state_of node) w;
}

-- the state of the node's desk
abbrev pub outlook_of : NodeView → Bool → Outlook
outlook_of node let_go = record {
  waits = nat_lt 0 (length (state_of node).desk.waiting);
  lends = is_some (state_of node).desk.lent;
  has_lease = nat_lt 0 (site_in node).lease;
  let_go = let_go;
}

-- The plan is the one that the pace makes at this moment: whether the node ticks, and on which of
-- its ports a frame is due.
pub record IsPlanOf {P : Type 0} (now : ℕ) (m : Moment P) (plan : Plan) : Type 0 where
  pub ticks : plan.ticks ≡ may_tick (outlook_of m.node m.let_go) now m.pace.node
  pub offers : (w : ℕ) → w < 64 → Contains (site_in m.node).neighbours w
      → slice_index_or plan.offers w false
      ≡ is_due (sight_at m.node m.ports w)
      (holds (outlook_of m.node m.let_go) m.pace.manner now m.pace.node)
      m.pace.manner.repeat now (port_of m.pace.ports w)
