-- What is kept of a port, and when a frame is due there.
use Rattle.std.specs.Prelude.{ℕ, ◌+◌, ◌%◌, ◌/◌, min, Bool, true, false, not, ◌&&◌, ◌||◌, ◌==◌, if◌then◌else◌, nat_lt, Option, Some, None}
use Rattle.topology.specs.declared.frame.Payload.{Payload}
use Rattle.topology.specs.declared.frame.Frame.{Frame}
use Rattle.pace.specs.Clock.{is_over}
use Rattle.pace.specs.declared.port.PortSight.{PortSight}
use Rattle.pace.specs.declared.port.PortPace.{PortPace}
use Rattle.pace.specs.declared.port.Hearing.{Hearing}
use Rattle.pace.specs.declared.port.Hearing.TheVariants as hearing
use Rattle.pace.specs.declared.port.Calling.{Calling}
use Rattle.pace.specs.declared.port.Calling.TheVariants.{Done, Begins, GoesOn}

-- the same node, or none in both
abbrev pub same_node : Option ℕ → Option ℕ → Bool
same_node None None = true
same_node (Some v) (Some w) = v == w
same_node _ _ = false

-- the same distance and the same parent
abbrev pub same_place : Payload → Payload → Bool
same_place p q = (p.distance == q.distance) && same_node p.parent q.parent

-- and the same value of the machine
abbrev pub same_payload : Payload → Payload → Bool
same_payload p q = same_place p q && (p.ring == q.ring)

-- and the same number and acknowledgement
abbrev pub same_frame : Frame → Frame → Bool
same_frame f g = (f.seq == g.seq) && ((f.ack == g.ack) && same_payload f.payload g.payload)

-- a port at which nothing was given or heard
abbrev pub fresh_port : PortPace
fresh_port = record {
  given = None;
  given_times = 0;
  given_at = 0;
  heard = None;
  heard_times = 0;
  heard_at = 0;
  owes = false;
  calls = Done;
}

-- one more, capped at 2^32 - 1
abbrev pub one_more : ℕ → ℕ
one_more n = if nat_lt n 4294967295 then n + 1 else 4294967295

-- how many times in a row a frame came last, if the last frame came this many times in a row
abbrev pub times_after : Option Frame → ℕ → Frame → ℕ
times_after None times frame = 0
times_after (Some last) times frame = if same_frame last frame then times else 0

-- how many times in a row a frame was given last; and how many times it was heard, this time
-- included
abbrev pub times_given : Frame → PortPace → ℕ
times_given frame port = times_after port.given port.given_times frame

abbrev pub times_heard : Frame → PortPace → ℕ
times_heard frame port = one_more (times_after port.heard port.heard_times frame)

-- a frame that comes now follows the one before it in less than 4 milliseconds, and in less than
-- half of the repetition time
abbrev pub is_soon : ℕ → ℕ → PortPace → Bool
is_soon repeat now port = not (is_over port.heard_at (min 4000 (repeat / 2)) now)

-- the second equal frame in a row is a question; each fourth is a call, if it comes soon after the
-- one before it
abbrev pub hearing_of : ℕ → Bool → Hearing
hearing_of times is_soon =
    if times == 2 then hearing.Question
    else if (times % 4 == 0) && is_soon then hearing.Call
    else hearing.Frame

-- a port that heard a frame; an answer is owed to a question
abbrev pub heard_port : Frame → ℕ → PortPace → PortPace
heard_port frame now port = record port {
  heard = Some frame;
  heard_times = times_heard frame port;
  heard_at = now;
  owes = port.owes || (times_heard frame port == 2);
}

-- how far a call is passed on after a frame that was given this many times in a row: it is out with
-- each fourth, if another frame has been given for it before
abbrev pub calls_after : ℕ → Calling → Calling
calls_after times Done = Done
calls_after times Begins = GoesOn
calls_after times GoesOn = if times % 4 == 0 then Done else GoesOn

-- a call must be passed on
abbrev pub is_calling : Calling → Bool
is_calling Done = false
is_calling _ = true

-- a port that was given a frame: nothing is owed, and a call has gone on
abbrev pub given_port : Frame → ℕ → PortPace → PortPace
given_port frame now port = record port {
  given = Some frame;
  given_times = one_more (times_given frame port);
  given_at = now;
  owes = false;
  calls = calls_after (one_more (times_given frame port)) port.calls;
}

-- what the node has to say is not staged; while it holds, its distance and its parent alone count
abbrev pub has_question : PortSight → Bool → Bool
has_question sight true = not (same_place sight.frame.payload sight.present)
has_question sight false = not (same_payload sight.frame.payload sight.present)

-- the payload was not given last
abbrev pub is_new_after : Option Frame → Frame → Bool
is_new_after None frame = true
is_new_after (Some last) frame = not (same_payload last.payload frame.payload)

abbrev pub is_news : Frame → PortPace → Bool
is_news frame port = is_new_after port.given frame

-- a frame is due if the port takes one, and its payload is news, an answer is owed, a call must be
-- passed on, the repetition time is over, or a question must be asked, which gives it twice
abbrev pub is_due : PortSight → Bool → ℕ → ℕ → PortPace → Bool
is_due sight holds repeat now port =
    sight.takes_frames
    && (is_news sight.frame port || (port.owes || (is_calling port.calls || (is_over port.given_at repeat now
    || (has_question sight holds && nat_lt (times_given sight.frame port) 2)))))
