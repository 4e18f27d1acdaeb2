-- The ranges of the fields of payloads and frames.
use Rattle.std.specs.Prelude.{ℕ, Bool, true, ◌&&◌, nat_lt, nat_le, Option, Some, None}
use Rattle.topology.specs.Network.{Network, counter_of, ring_of}
use Rattle.topology.specs.declared.frame.Payload.{Payload}
use Rattle.topology.specs.declared.frame.Frame.{Frame}
use Rattle.topology.specs.declared.frame.Ranges.{Ranges}

-- the ranges on a network
abbrev pub ranges_of : Network → Ranges
ranges_of net = record { nodes = net.nodes; counter = counter_of net; ring = ring_of net }

-- a parent is none, or a node
abbrev pub parent_fits : ℕ → Option ℕ → Bool
parent_fits nodes None = true
parent_fits nodes (Some p) = nat_lt p nodes

-- a payload is in range if its distance is at most n, its parent none or below n, and its ring
-- value below K
abbrev pub payload_fits : Ranges → Payload → Bool
payload_fits r p =
    nat_le p.distance r.nodes && (parent_fits r.nodes p.parent && nat_lt p.ring r.ring)

-- a frame is in range if both its numbers are below M and its payload is in range
abbrev pub frame_fits : Ranges → Frame → Bool
frame_fits r f = nat_lt f.seq r.counter && (nat_lt f.ack r.counter && payload_fits r f.payload)
