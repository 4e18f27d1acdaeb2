-- One step: which events are refused, and what the others change.
use Rattle.std.specs.Prelude.{ℕ, Bool, true, ◌&&◌, not, nat_lt, nat_le, if◌then◌else◌, is_some, List, [], ◌∷◌, ◌++◌, length, Option, Some, None}
use Rattle.std.specs.List.{remove}
use Rattle.link_model.specs.topology.At.{at}
use Rattle.link_model.specs.topology.Network.{are_joined}
use Rattle.link_model.specs.topology.Ranges.{ranges_of, parent_fits, payload_fits}
use Rattle.link_model.specs.declared.item.Item.{Item}
use Rattle.link_model.specs.declared.item.Item.TheVariants.{Frame}
use Rattle.node_core.specs.data_link.Port.{PortState, frame_of, counters_fit}
use Rattle.node_core.specs.lock_desk.Desk.{DeskState, is_number, ask_fault, asked, is_stranger, after_leave, loan_fits, with_loan}
use Rattle.node_core.specs.lock_desk.declared.fault.AskFault.{AskFault}
use Rattle.node_core.specs.lock_desk.declared.fault.AskFault.TheVariants as ask
use Rattle.node_core.specs.Step.{taken, ticked}
use Rattle.run_model.specs.World.{World, item_fits, site, with_node, with_link}
use Rattle.run_model.specs.Rewire.{can_join, can_part, with_edge, without_edge}
use Rattle.run_model.specs.declared.event.Event.{Event}
use Rattle.run_model.specs.declared.event.Event.TheVariants.{Send, Take, Lose, Tick, Ask, Leave, Damage}
use Rattle.run_model.specs.declared.event.Harm.{Harm}
use Rattle.run_model.specs.declared.event.Harm.TheVariants as harm
use Rattle.run_model.specs.declared.event.EventFault.{EventFault}
use Rattle.run_model.specs.declared.event.EventFault.TheVariants.{NoNode, NoLink, NoItem, OutOfRange, Full, Twice, Stranger, NoSpare, Apart}

-- the first of two refusals
abbrev pub first_fault : Option EventFault → Option EventFault → Option EventFault
first_fault (Some fault) later = Some fault
first_fault None later = later

-- a refusal, unless the test holds
abbrev pub unless : Bool → EventFault → Option EventFault
unless test fault = if test then None else Some fault

-- the node must be there
abbrev pub node_fault : World → ℕ → Option EventFault
node_fault w v = unless (nat_lt v w.net.nodes) NoNode

-- both must be nodes
abbrev pub nodes_fault : World → ℕ → ℕ → Option EventFault
nodes_fault w u v = unless (nat_lt u w.net.nodes && nat_lt v w.net.nodes) NoNode

-- both must be nodes, and they must be neighbours
abbrev pub link_fault : World → ℕ → ℕ → Option EventFault
link_fault w u v = first_fault (nodes_fault w u v) (unless (are_joined w.net.edges u v) NoLink)

-- the link has room for one more item
abbrev pub has_room : World → ℕ → ℕ → Bool
has_room w u v = nat_lt (length (w.link u v)) w.net.capacity

-- the node that a harm writes to, or the two neighbours whose port, value or link it writes to,
-- must be there; a new edge joins two nodes, and one that goes joined two neighbours
abbrev pub harm_place_fault : World → Harm → Option EventFault
harm_place_fault w (harm.Own v d p) = node_fault w v
harm_place_fault w (harm.Counters v u seq last) = link_fault w v u
harm_place_fault w (harm.Staged v u payload) = link_fault w v u
harm_place_fault w (harm.Copy v u payload) = link_fault w v u
harm_place_fault w (harm.Value v u x) = link_fault w v u
harm_place_fault w (harm.Desk v lent left served) = node_fault w v
harm_place_fault w (harm.Item u v item) = link_fault w u v
harm_place_fault w (harm.Empty u v) = link_fault w u v
harm_place_fault w (harm.Join u v) = nodes_fault w u v
harm_place_fault w (harm.Part u v) = link_fault w u v

-- what a harm writes is in range; an item also needs room on its link, and a new edge needs two
-- nodes that it may join
abbrev pub harm_fits : World → Harm → Bool
harm_fits w (harm.Own v d p) = nat_le d w.net.nodes && parent_fits w.net.nodes p
harm_fits w (harm.Counters v u seq last) = counters_fit (ranges_of w.net) seq last
harm_fits w (harm.Staged v u payload) = payload_fits (ranges_of w.net) payload
harm_fits w (harm.Copy v u payload) = payload_fits (ranges_of w.net) payload
harm_fits w (harm.Value v u x) = nat_lt x (ranges_of w.net).ring
harm_fits w (harm.Desk v lent left served) = loan_fits w.net.lease (w.node v).desk lent left
harm_fits w (harm.Item u v item) = item_fits (ranges_of w.net) item && has_room w u v
harm_fits w (harm.Empty u v) = true
harm_fits w (harm.Join u v) = can_join w.net u v
harm_fits w (harm.Part u v) = true

-- what a harm writes must be in range; a new edge also needs a spare pair of links, and an edge
-- that goes must leave the network connected
abbrev pub harm_fault : World → Harm → Option EventFault
harm_fault w (harm.Join u v) = first_fault (unless (can_join w.net u v) OutOfRange) (unless (nat_lt 0 w.spares) NoSpare)
harm_fault w (harm.Part u v) = unless (can_part w.net u v) Apart
harm_fault w h = unless (harm_fits w h) OutOfRange

-- a desk's refusals of a ticket, as refusals of the event
abbrev pub desk_fault : Option AskFault → Option EventFault
desk_fault None = None
desk_fault (Some ask.Full) = Some Full
desk_fault (Some ask.Twice) = Some Twice

-- a ticket is a number below 65536; in code its type ensures that
abbrev pub ticket_fault : ℕ → Option EventFault
ticket_fault t = unless (is_number t) OutOfRange

-- the first reason to refuse an event, if any
abbrev pub refusal : World → Event → Option EventFault
refusal w (Send u v) = link_fault w u v
refusal w (Take u v) = link_fault w u v
refusal w (Lose u v i) = first_fault (link_fault w u v) (unless (nat_lt i (length (w.link u v))) NoItem)
refusal w (Tick v) = node_fault w v
refusal w (Ask v t) = first_fault (node_fault w v) (first_fault (ticket_fault t) (desk_fault (ask_fault t (w.node v).desk)))
refusal w (Leave v t) = first_fault (node_fault w v) (unless (not (is_stranger t (w.node v).desk)) Stranger)
refusal w (Damage h) = first_fault (harm_place_fault w h) (harm_fault w h)

-- the world with p as the port of v to u
abbrev pub with_port : World → ℕ → ℕ → PortState → World
with_port w v u p = with_node w v (record (w.node v) { port = at (w.node v).port u p })

-- the world with d as the desk of v
abbrev pub with_desk : World → ℕ → DeskState → World
with_desk w v d = with_node w v (record (w.node v) { desk = d })

-- the world with this one part written, or with this one edge more or fewer
abbrev pub harmed : World → Harm → World
harmed w (harm.Own v d p) = with_node w v (record (w.node v) { distance = d; parent = p })
harmed w (harm.Counters v u seq last) = with_port w v u (record ((w.node v).port u) { seq = seq; last = last })
harmed w (harm.Staged v u payload) = with_port w v u (record ((w.node v).port u) { staged = payload })
harmed w (harm.Copy v u payload) = with_port w v u (record ((w.node v).port u) { copy = payload })
harmed w (harm.Value v u x) = with_node w v (record (w.node v) { value = at (w.node v).value u x })
harmed w (harm.Desk v lent left served) = with_desk w v (with_loan (w.node v).desk lent left served)
harmed w (harm.Item u v item) = with_link w u v (w.link u v ++ item ∷ [])
harmed w (harm.Empty u v) = with_link w u v []
harmed w (harm.Join u v) = with_edge w u v
harmed w (harm.Part u v) = without_edge w u v

-- the frame of u's port to v becomes the last of the link; on a full link it is lost
abbrev pub sent : World → ℕ → ℕ → World
sent w u v = if has_room w u v then with_link w u v (w.link u v ++ Frame (frame_of ((w.node u).port v)) ∷ []) else w

-- v takes the oldest of these items, which are under way from u to v; if there is none, nothing
-- changes
abbrev pub handed_over : World → ℕ → ℕ → List Item → World
handed_over w u v [] = w
handed_over w u v (item ∷ rest) = with_link (with_node w v (taken (site w v) u item (w.node v))) u v rest

-- what an accepted event changes
abbrev pub changed : World → Event → World
changed w (Send u v) = sent w u v
changed w (Take u v) = handed_over w u v (w.link u v)
changed w (Lose u v i) = with_link w u v (remove (w.link u v) i)
changed w (Tick v) = with_node w v (ticked (site w v) (w.node v))
changed w (Ask v t) = with_desk w v (asked t (w.node v).desk)
changed w (Leave v t) = with_desk w v (after_leave t (w.node v).desk)
changed w (Damage h) = harmed w h

-- the next world: a refused event changes nothing
abbrev pub step : World → Event → World
step w e = if is_some (refusal w e) then w else changed w e
