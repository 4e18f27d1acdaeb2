-- The plan of a turn, the calls that go on, and the rest after a turn.
use Rattle.std.specs.Prelude.{ℕ, ◌-◌, Bool, true, false, not, ◌==◌, if◌then◌else◌, List, filter, length, min, slice_index_or, Option, Some, None}
use Rattle.pace.specs.Clock.{time_left}
use Rattle.pace.specs.Ports.{fresh_port, is_due}
use Rattle.pace.specs.Nodes.{holds, called, was_called, moved_on, calls_for_haste}
use Rattle.pace.specs.declared.node.Outlook.{Outlook}
use Rattle.pace.specs.declared.node.NodePace.{NodePace}
use Rattle.pace.specs.declared.pace.Manner.{Manner}
use Rattle.pace.specs.declared.port.Hearing.{Hearing}
use Rattle.pace.specs.declared.port.Hearing.TheVariants.{Call}
use Rattle.pace.specs.declared.port.Calling.{Calling}
use Rattle.pace.specs.declared.port.Calling.TheVariants.{Done, Begins}
use Rattle.pace.specs.declared.port.PortSight.{PortSight}
use Rattle.pace.specs.declared.port.PortPace.{PortPace}

-- what is kept of a port
abbrev pub port_of : List PortPace → ℕ → PortPace
port_of ports p = slice_index_or ports p fresh_port

-- a port that takes no frames
abbrev pub no_sight : PortSight
no_sight = record {
  takes_frames = false;
  frame = record { seq = 0; ack = 0; payload = record { distance = 0; parent = None; ring = 0 } };
  present = record { distance = 0; parent = None; ring = 0 };
}

-- what is seen at a port
abbrev pub sight_of : List PortSight → ℕ → PortSight
sight_of sights p = slice_index_or sights p no_sight

-- a tree neighbour is at the port; how many of them there are
abbrev pub is_tree : List Bool → ℕ → Bool
is_tree trees p = slice_index_or trees p false

abbrev pub tree_count : List Bool → ℕ
tree_count trees = length (filter (λ tree. tree) trees)

-- the port is not the one that is left out
abbrev pub is_other : Option ℕ → ℕ → Bool
is_other None p = true
is_other (Some but) p = not (but == p)

-- a port at which a call must be passed on, if there is one; a call that is already under way goes
-- on
abbrev pub call_at : Bool → Calling → Calling
call_at true Done = Begins
call_at _ calls = calls

abbrev pub called_port : Bool → PortPace → PortPace
called_port is_called port = record port { calls = call_at is_called port.calls }

-- a call that is heard goes on, unless one has just gone on
abbrev pub goes_on : Hearing → ℕ → ℕ → NodePace → Bool
goes_on Call trees now node = not (was_called trees now node)
goes_on _ trees now node = false

-- what a node makes of a frame's further meaning
abbrev pub node_said : Hearing → ℕ → ℕ → NodePace → NodePace
node_said Call trees now node = called trees now node
node_said _ trees now node = node

-- a node that ticked, and may then have called
abbrev pub node_ticked : Outlook → Bool → ℕ → Manner → ℕ → NodePace → NodePace
node_ticked outlook moved trees manner now node =
    if calls_for_haste outlook trees now (moved_on moved trees manner now node)
    then called trees now (moved_on moved trees manner now node)
    else moved_on moved trees manner now node

-- how long it is until a frame is due at a port for the sake of time alone, 2 milliseconds at most
abbrev pub rest_at : PortSight → Bool → ℕ → ℕ → PortPace → ℕ
rest_at sight holds repeat now port =
    if is_due sight holds repeat now port then 0
    else if sight.takes_frames then min (time_left port.given_at repeat now) 2000
    else 2000

-- how long it is until the hold is over, 2 milliseconds at most
abbrev pub node_rest : Outlook → Manner → ℕ → NodePace → ℕ
node_rest outlook manner now node =
    if holds outlook manner now node then min 2000 (node.hold_until - now) else 2000
