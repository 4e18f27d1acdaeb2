-- How a node of the world differs from what was noted, as harms: none if it does not differ.
use Rattle.std.specs.Prelude.{ℕ, Bool, true, false, not, ◌&&◌, ◌==◌, if◌then◌else◌, List, [], ◌∷◌, ◌++◌, map, Option, Some, None}
use Rattle.std.specs.Str.{bytes_eq}
use Rattle.topology.specs.declared.frame.Frame.{Frame}
use Rattle.flight_records.specs.Again.{same_node, same_payload}
use Rattle.configuration.specs.node_core.State.{LocalState}
use Rattle.configuration.specs.node_core.lock_desk.Desk.{DeskState}
use Rattle.configuration.specs.data_link.Port.{PortState}
use Rattle.configuration.specs.run_model.declared.event.Event.{Event}
use Rattle.configuration.specs.run_model.declared.event.Event.TheVariants as event
use Rattle.configuration.specs.run_model.declared.event.Harm.{Harm}
use Rattle.configuration.specs.run_model.declared.event.Harm.TheVariants as harm

-- the harm, unless what it would change is already the same
abbrev pub unless : Bool → Harm → Option Harm
unless is_same h = if is_same then None else Some h

-- the harms among some, as events
abbrev pub harms_in : List (Option Harm) → List Event
harms_in [] = []
harms_in (None ∷ hs) = harms_in hs
harms_in (Some h ∷ hs) = event.Damage h ∷ harms_in hs

-- v has a different distance or parent
abbrev pub own_harm : ℕ → LocalState → ℕ → Option ℕ → Option Harm
own_harm v s distance parent =
    unless (s.distance == distance && same_node s.parent parent) (harm.Own v distance parent)

-- v's port to u, or the value of the machine that comes in from there, is different
abbrev pub port_harms : ℕ → ℕ → LocalState → PortState → ℕ → List (Option Harm)
port_harms v u s p value =
    unless ((s.port u).seq == p.seq && (s.port u).last == p.last) (harm.Counters v u p.seq p.last)
    ∷ unless (same_payload (s.port u).staged p.staged) (harm.Staged v u p.staged)
    ∷ unless (same_payload (s.port u).copy p.copy) (harm.Copy v u p.copy)
    ∷ unless (s.value u == value) (harm.Value v u value) ∷ []

-- v's port to u sends a different frame
abbrev pub frame_harms : ℕ → ℕ → PortState → Frame → List (Option Harm)
frame_harms v u p f =
    unless (p.seq == f.seq && p.last == f.ack) (harm.Counters v u f.seq f.ack)
    ∷ unless (same_payload p.staged f.payload) (harm.Staged v u f.payload) ∷ []

-- both are true, or neither is
abbrev pub same_truth : Bool → Bool → Bool
same_truth true b = b
same_truth false b = not b

-- a desk's loan is different
abbrev pub loan_harm : ℕ → Option ℕ → ℕ → Bool → Option ℕ → ℕ → Bool → Option Harm
loan_harm v lent left served to rest did_serve =
    unless (same_node lent to && (left == rest && same_truth served did_serve))
    (harm.Desk v to rest did_serve)

-- The desk of v is different. If different tickets wait, or in a different order, its loan ends,
-- all that wait leave, and those that were noted ask; in the end its loan is the one that was
-- noted.
abbrev pub desk_events : ℕ → DeskState → List ℕ → Option ℕ → ℕ → Bool → List Event
desk_events v d queue lent left served =
    if bytes_eq d.waiting queue then harms_in (loan_harm v d.lent d.left d.served lent left served ∷ [])
    else event.Damage (harm.Desk v None 0 false)
    ∷ (map (event.Leave v) d.waiting
    ++ (map (event.Ask v) queue ++ harms_in (loan_harm v None 0 false lent left served ∷ [])))
