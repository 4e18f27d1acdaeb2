-- What a log has said and seen after a turn.
use Rattle.std.specs.Prelude.{ℕ, Bool, false, ◌≡◌, ◌≢◌, ◌<◌, List, [], ◌∷◌, Option, None, Some, is_some, length, slice_get}
use Rattle.std.specs.List.{slice_index_or}
use Rattle.node_core.specs.lock_desk.declared.act.DeskAct.{DeskAct}
use Rattle.node_core.specs.State.{LocalState}
use Rattle.node_core.specs.View.{NodeView, site_in, state_of}
use Rattle.node_core.specs.data_link.topology.Network.{Network}
use Rattle.process_parts.specs.node_log.Places.{by_place, place_after}
use Rattle.process_parts.specs.node_log.Turns.{gave_back, by_act, by_link, by_desk, by_crowd}
use Rattle.process_parts.specs.node_log.Turns.{rate_then, full_after, crowded_after, next_of}
use Rattle.unix_doors.specs.node_connections.declared.port.NodePort.{NodePort}
use Rattle.unix_doors.specs.declared.seats.ClientSight.{ClientSight}
use Rattle.process_parts.specs.node_log.declared.event.NodeEvent.{NodeEvent}
use Rattle.process_parts.specs.node_log.declared.event.Level.{Level}
use Rattle.process_parts.specs.node_log.declared.log.NodeLog.{NodeLog}
use Rattle.process_parts.specs.node_log.declared.rate.LineRate.{LineRate}
use Rattle.node_journal.specs.Places.{is_placed}

-- the rate of lines after an event, if there is one
abbrev pub rate_if : Option Level → ℕ → Option NodeEvent → LineRate → LineRate
rate_if least now None rate = rate
rate_if least now (Some event) rate = rate_then least event now rate

-- the rate of lines after some events, one after the other
abbrev pub rates_then : Option Level → ℕ → List (Option NodeEvent) → LineRate → LineRate
rates_then least now [] rate = rate
rates_then least now (event ∷ events) rate = rates_then least now events (rate_if least now event rate)

-- two logs have seen the same, and say events from the same level on
pub record SawTheSame (old new : NodeLog) : Type 0 where
  pub least : new.least ≡ old.least
  pub up : new.up ≡ old.up
  pub next : new.next ≡ old.next
  pub lent : new.lent ≡ old.lent
  pub is_full : new.is_full ≡ old.is_full
  pub is_crowded : new.is_crowded ≡ old.is_crowded
  pub place : new.place ≡ old.place

-- A log has seen a node after a turn, in its place or not, with this many clients connected and closed. Of
-- the links, it has seen the one that was next, which is up or down. Nothing is said about an id above 63.
pub record HasSeen (old new : NodeLog) (s : LocalState) (is_up in_place : Bool) (connected closed now : ℕ) : Type 0 where
  pub lent : new.lent ≡ s.desk.lent
  pub is_full : new.is_full ≡ full_after (length s.desk.waiting) old.is_full
  pub is_crowded : new.is_crowded ≡ crowded_after closed connected old.is_crowded
  pub place : new.place ≡ place_after in_place now old.place
  pub link : old.next < 64 → slice_index_or new.up old.next false ≡ is_up
  pub others : (other : ℕ) → other ≢ old.next → slice_index_or new.up other false ≡ slice_index_or old.up other false

-- there is a connection at the port of a node; there is none if the node has no port
abbrev pub stands_at : {P : Type 0} → Option (NodePort P) → Bool
stands_at None = false
stands_at (Some port) = is_some port.link.pipe

-- what may be said after a turn, in this order
abbrev pub turn_events : NodeLog → LocalState → DeskAct → (is_up in_place : Bool) → (connected closed now : ℕ) → List (Option NodeEvent)
turn_events old s act is_up in_place connected closed now =
    gave_back old.lent act s.desk.lent
    ∷ by_act act
    ∷ by_link old.next is_up old.up
    ∷ by_desk (length s.desk.waiting) old.is_full
    ∷ by_crowd closed connected old.is_crowded
    ∷ by_place in_place now old.place
    ∷ []

-- a log that is on has seen a node, as it is after a turn with this act at its desk; each event of the
-- turn was said or counted, in order; and the next turn looks at the next link
pub record LogsTurn {P : Type 0} (net : Network) (node : NodeView) (ports : List (NodePort P)) (act : DeskAct) (clients : ClientSight) (now : ℕ) (old new : NodeLog) : Type 0 where
  pub seen : HasSeen old new (state_of node) (stands_at (slice_get ports old.next)) (is_placed net (site_in node).id (state_of node)) clients.connected clients.closed now
  pub said : new.rate ≡ rates_then old.least now
      (turn_events old (state_of node) act (stands_at (slice_get ports old.next)) (is_placed net (site_in node).id (state_of node)) clients.connected clients.closed now)
      old.rate
  pub next : new.next ≡ next_of net.nodes old.next
