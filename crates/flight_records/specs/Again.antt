-- A frame that is noted again: its short form says that it is the last frame of its link.
use Rattle.std.specs.Prelude.{ℕ, Bool, true, false, ◌&&◌, ◌==◌, if◌then◌else◌, nat_lt}
use Rattle.std.specs.Prelude.{List, replicate, slice_index_or, slice_set, Option, None, Some}
use Rattle.topology.specs.declared.frame.Frame.{Frame}
use Rattle.topology.specs.declared.frame.Payload.{Payload}
use Rattle.flight_records.specs.Frames.{FramesView}
use Rattle.flight_records.specs.declared.entry.Noted.{Noted}
use Rattle.flight_records.specs.declared.entry.Noted.TheVariants as noted
use Rattle.flight_records.specs.declared.entry.StatePart.{StatePart}
use Rattle.flight_records.specs.declared.entry.StatePart.TheVariants.{Start, Own, Port, Waits, Loan, Whole}
use Rattle.flight_records.specs.declared.entry.Deed.{Deed}
use Rattle.flight_records.specs.declared.entry.Deed.TheVariants.{Ticks, Takes, TakesAgain, Sends}
use Rattle.flight_records.specs.declared.entry.Deed.TheVariants.{SendsAgain, Asks, Leaves, Joins}
use Rattle.flight_records.specs.declared.entry.Deed.TheVariants.{Parts, Connects, Disconnects}

-- the same node, or none in both
abbrev pub same_node : Option ℕ → Option ℕ → Bool
same_node None None = true
same_node (Some v) (Some w) = v == w
same_node _ _ = false

-- equal payloads
abbrev pub same_payload : Payload → Payload → Bool
same_payload p q = (p.distance == q.distance) && (same_node p.parent q.parent && (p.ring == q.ring))

-- equal frames
abbrev pub same_frame : Frame → Frame → Bool
same_frame f g = (f.seq == g.seq) && ((f.ack == g.ack) && same_payload f.payload g.payload)

-- no frames, as at the start of a record
abbrev pub no_frames : FramesView
no_frames = record { taken = replicate 64 None; sent = replicate 64 None }

-- the last frame of the link with a node, if there was one
abbrev pub last_of : List (Option Frame) → ℕ → Option Frame
last_of frames w = slice_index_or frames w None

-- from now on this is the last one; a network has at most 64 nodes
abbrev pub put_last : ℕ → Frame → List (Option Frame) → List (Option Frame)
put_last w f frames = if nat_lt w 64 then slice_set frames w (Some f) else frames

-- this frame was the last one
abbrev pub is_last : Option Frame → Frame → Bool
is_last None f = false
is_last (Some last) f = same_frame last f

-- what is remembered once something was noted, in its long form: at the start of a state nothing
abbrev pub after_part : FramesView → StatePart → FramesView
after_part v (Start network node) = no_frames
after_part v (Own distance parent) = v
after_part v (Port neighbour seq last staged copy value) = v
after_part v (Waits ticket) = v
after_part v (Loan lent left served) = v
after_part v Whole = v

abbrev pub after_deed : FramesView → Deed → FramesView
after_deed v Ticks = v
after_deed v (Takes from frame) = record v { taken = put_last from frame v.taken }
after_deed v (TakesAgain from) = v
after_deed v (Sends to frame) = record v { sent = put_last to frame v.sent }
after_deed v (SendsAgain to) = v
after_deed v (Asks ticket) = v
after_deed v (Leaves ticket) = v
after_deed v (Joins neighbour) = v
after_deed v (Parts neighbour) = v
after_deed v (Connects neighbour) = v
after_deed v (Disconnects neighbour) = v

abbrev pub frames_after : FramesView → Noted → FramesView
frames_after v (noted.State part) = after_part v part
frames_after v (noted.Deed deed) = after_deed v deed

-- what stands for a deed in a record: the short form of a frame that was the last one of its link
abbrev pub shortened_deed : FramesView → Deed → Deed
shortened_deed v Ticks = Ticks
shortened_deed v (Takes from frame) =
    if is_last (last_of v.taken from) frame then TakesAgain from else Takes from frame
shortened_deed v (TakesAgain from) = TakesAgain from
shortened_deed v (Sends to frame) =
    if is_last (last_of v.sent to) frame then SendsAgain to else Sends to frame
shortened_deed v (SendsAgain to) = SendsAgain to
shortened_deed v (Asks ticket) = Asks ticket
shortened_deed v (Leaves ticket) = Leaves ticket
shortened_deed v (Joins neighbour) = Joins neighbour
shortened_deed v (Parts neighbour) = Parts neighbour
shortened_deed v (Connects neighbour) = Connects neighbour
shortened_deed v (Disconnects neighbour) = Disconnects neighbour

abbrev pub shortened : FramesView → Noted → Noted
shortened v (noted.State part) = noted.State part
shortened v (noted.Deed deed) = noted.Deed (shortened_deed v deed)

-- the last frame of a link, taken or sent again, if there was one
abbrev pub taken_again : ℕ → Option Frame → Option Noted
taken_again from None = None
taken_again from (Some frame) = Some (noted.Deed (Takes from frame))

abbrev pub sent_again : ℕ → Option Frame → Option Noted
sent_again to None = None
sent_again to (Some frame) = Some (noted.Deed (Sends to frame))

-- what was noted, if this deed stands for it in a record
abbrev pub lengthened_deed : FramesView → Deed → Option Noted
lengthened_deed v Ticks = Some (noted.Deed Ticks)
lengthened_deed v (Takes from frame) = Some (noted.Deed (Takes from frame))
lengthened_deed v (TakesAgain from) = taken_again from (last_of v.taken from)
lengthened_deed v (Sends to frame) = Some (noted.Deed (Sends to frame))
lengthened_deed v (SendsAgain to) = sent_again to (last_of v.sent to)
lengthened_deed v (Asks ticket) = Some (noted.Deed (Asks ticket))
lengthened_deed v (Leaves ticket) = Some (noted.Deed (Leaves ticket))
lengthened_deed v (Joins neighbour) = Some (noted.Deed (Joins neighbour))
lengthened_deed v (Parts neighbour) = Some (noted.Deed (Parts neighbour))
lengthened_deed v (Connects neighbour) = Some (noted.Deed (Connects neighbour))
lengthened_deed v (Disconnects neighbour) = Some (noted.Deed (Disconnects neighbour))

abbrev pub lengthened : FramesView → Noted → Option Noted
lengthened v (noted.State part) = Some (noted.State part)
lengthened v (noted.Deed deed) = lengthened_deed v deed

-- what is remembered once something was read, if it stood for anything
abbrev pub after_long : FramesView → Option Noted → FramesView
after_long v None = v
after_long v (Some long) = frames_after v long
