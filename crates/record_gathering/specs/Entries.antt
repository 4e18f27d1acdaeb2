-- What an entry of a node's record becomes in a world: events.
use Rattle.std.specs.Prelude.{ℕ, Bool, true, not, ◌&&◌, ◌||◌, nat_lt, if◌then◌else◌, List, [], ◌∷◌, ◌++◌, map, replicate}
use Rattle.topology.specs.Network.{are_joined}
use Rattle.topology.specs.Ranges.{ranges_of, frame_fits}
use Rattle.topology.specs.declared.frame.Frame.{Frame}
use Rattle.flight_records.specs.declared.entry.Noted.{Noted}
use Rattle.flight_records.specs.declared.entry.Noted.TheVariants as noted
use Rattle.flight_records.specs.declared.entry.StatePart.{StatePart}
use Rattle.flight_records.specs.declared.entry.StatePart.TheVariants as part
use Rattle.flight_records.specs.declared.entry.Deed.{Deed}
use Rattle.flight_records.specs.declared.entry.Deed.TheVariants as deed
use Rattle.configuration.specs.link_model.declared.item.Item.{Item}
use Rattle.configuration.specs.link_model.declared.item.Item.TheVariants as item
use Rattle.configuration.specs.run_model.World.{World}
use Rattle.configuration.specs.run_model.Step.{has_room}
use Rattle.configuration.specs.run_model.declared.event.Event.{Event}
use Rattle.configuration.specs.run_model.declared.event.Event.TheVariants.{Send, Take, Lose, Tick, Ask, Leave, Damage}
use Rattle.configuration.specs.run_model.declared.event.Harm.TheVariants as harm
use Rattle.record_gathering.specs.Differences.{harms_in, own_harm, port_harms, frame_harms, desk_events}
use Rattle.record_gathering.specs.Frames.{is_under_way, in_front}

-- this many of the oldest items of the link from u to v are lost
abbrev pub losses : ℕ → ℕ → ℕ → List Event
losses u v count = replicate count (Lose u v 0)

-- the frame is one that may be on the link from u to v
abbrev pub is_of_link : World → ℕ → ℕ → Frame → Bool
is_of_link w u v f = are_joined w.net.edges u v && frame_fits (ranges_of w.net) f

-- a frame that nobody sent stands on the link
abbrev pub forged_events : World → ℕ → ℕ → Frame → List Event
forged_events w u v f =
    if is_under_way f (w.link u v) then [] else Damage (harm.Item u v (item.Frame f)) ∷ []

-- items are put on the link from u to v, one after the other
abbrev pub item_events : ℕ → ℕ → List Item → List Event
item_events u v items = map (λ x. Damage (harm.Item u v x)) items

-- after a frame that nobody sent, what was under way is put there again
abbrev pub events_again : World → ℕ → ℕ → Frame → List Event
events_again w u v f = if is_under_way f (w.link u v) then [] else item_events u v (w.link u v)

-- v took the frame from u: all that was in front of it is lost. A frame that nobody sent stands alone on the
-- link, until it is taken.
abbrev pub taken_events : World → ℕ → ℕ → Frame → List Event
taken_events w u v f =
    losses u v (in_front f (w.link u v))
    ++ (forged_events w u v f ++ (Take u v ∷ events_again w u v f))

-- a link that is full loses its oldest item
abbrev pub room_events : World → ℕ → ℕ → List Event
room_events w v u = if has_room w v u then [] else losses v u 1

-- the link from v to u accepted the frame: v's port sends it
abbrev pub sent_events : World → ℕ → ℕ → Frame → List Event
sent_events w v u f =
    harms_in (frame_harms v u ((w.node v).port u) f) ++ (room_events w v u ++ Send v u ∷ [])

-- what v did; a connection is no event, and a short form does not name its frame
abbrev pub deed_events : World → ℕ → Deed → List Event
deed_events w v deed.Ticks = Tick v ∷ []
deed_events w v (deed.Takes from frame) =
    if is_of_link w from v frame then taken_events w from v frame else []
deed_events w v (deed.TakesAgain from) = []
deed_events w v (deed.Sends to frame) =
    if is_of_link w v to frame then sent_events w v to frame else []
deed_events w v (deed.SendsAgain to) = []
deed_events w v (deed.Asks ticket) = Ask v ticket ∷ []
deed_events w v (deed.Leaves ticket) = Leave v ticket ∷ []
deed_events w v (deed.Joins neighbour) = Damage (harm.Join v neighbour) ∷ []
deed_events w v (deed.Parts neighbour) = Damage (harm.Part v neighbour) ∷ []
deed_events w v (deed.Connects neighbour) = []
deed_events w v (deed.Disconnects neighbour) = []

-- What a part of v's state becomes: harms wherever the world's node differs from it; and if other
-- tickets wait at its desk, these leave, and those that were noted ask. `queue` is what waits, as
-- noted before.
abbrev pub part_events : World → List ℕ → ℕ → StatePart → List Event
part_events w queue v (part.Start network node) = []
part_events w queue v (part.Own distance parent) =
    harms_in (own_harm v (w.node v) distance parent ∷ [])
part_events w queue v (part.Port neighbour seq last staged copy value) =
    if are_joined w.net.edges v neighbour
    then harms_in (port_harms v neighbour (w.node v) (record { seq = seq; last = last; staged = staged; copy = copy }) value)
    else []
part_events w queue v (part.Waits ticket) = []
part_events w queue v (part.Loan lent left served) =
    desk_events v (w.node v).desk queue lent left served
part_events w queue v part.Whole = []

-- what an entry of v's record becomes
abbrev pub noted_events : World → List ℕ → ℕ → Noted → List Event
noted_events w queue v (noted.State p) = part_events w queue v p
noted_events w queue v (noted.Deed d) = deed_events w v d

abbrev pub entry_events : World → List ℕ → ℕ → Noted → List Event
entry_events w queue v n = if nat_lt v w.net.nodes then noted_events w queue v n else []

-- A deed may come next: a frame that was taken is under way, and there is room for one that was sent.
abbrev pub is_deed_ready : World → ℕ → Deed → Bool
is_deed_ready w v (deed.Takes from frame) = not (is_of_link w from v frame) || is_under_way frame (w.link from v)
is_deed_ready w v (deed.Sends to frame) = not (is_of_link w v to frame) || has_room w v to
is_deed_ready w v _ = true

abbrev pub is_ready : World → ℕ → Noted → Bool
is_ready w v (noted.State p) = true
is_ready w v (noted.Deed d) = is_deed_ready w v d
