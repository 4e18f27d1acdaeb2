-- A port: what a node keeps about one neighbour to exchange numbered frames with it.
use Rattle.std.specs.Prelude.{ℕ, Bool, ◌&&◌, ◌==◌, nat_lt, None, if◌then◌else◌}
use Rattle.link_model.specs.topology.Ranges.{payload_fits}
use Rattle.link_model.specs.topology.declared.frame.Frame.{Frame}
use Rattle.link_model.specs.topology.declared.frame.Payload.{Payload}
use Rattle.link_model.specs.topology.declared.frame.Ranges.{Ranges}
use Rattle.k_state.specs.Machine.{root_moved}

-- The number under which the staged payload goes out, the last number that was accepted from the
-- neighbour, the staged payload, and the copy of the neighbour's payload that came with that last
-- number.
pub record PortState : Type 0 where
  pub seq : ℕ
  pub last : ℕ
  pub staged : Payload
  pub copy : Payload

-- a port and the ranges of its fields
pub record PortView : Type 0 where
  pub ranges : Ranges
  pub state : PortState

-- each number is below the counters' modulus
abbrev pub counters_fit : Ranges → ℕ → ℕ → Bool
counters_fit r seq last = nat_lt seq r.counter && nat_lt last r.counter

-- each field is in its range
abbrev pub port_fits : Ranges → PortState → Bool
port_fits r p = counters_fit r p.seq p.last && (payload_fits r p.staged && payload_fits r p.copy)

-- what a node says before it knows anything: the greatest distance, no parent, and the ring value 0
abbrev pub default_payload : Ranges → Payload
default_payload r = record { distance = r.nodes; parent = None; ring = 0 }

-- what a port starts with
abbrev pub default_port : Ranges → PortState
default_port r = record { seq = 0; last = 0; staged = default_payload r; copy = default_payload r }

-- what a port sends: the staged payload under its number, with the last accepted number as the
-- acknowledgement
abbrev pub frame_of : PortState → Frame
frame_of p = record { seq = p.seq; ack = p.last; payload = p.staged }

-- a frame that acknowledges the port's number moves it on by one, and the payload that is present
-- then is staged
abbrev pub port_acked : ℕ → PortState → Frame → Payload → PortState
port_acked modulus p f present =
    if f.ack == p.seq then record p { seq = root_moved p.seq modulus; staged = present } else p

-- a frame whose number differs from the last one is accepted: its number and payload are taken over
abbrev pub port_heard : PortState → Frame → PortState
port_heard p f = if f.seq == p.last then p else record p { last = f.seq; copy = f.payload }

-- the port after a frame: first its acknowledgement counts, then its number
abbrev pub port_after : ℕ → PortState → Frame → Payload → PortState
port_after modulus p f present = port_heard (port_acked modulus p f present) f
