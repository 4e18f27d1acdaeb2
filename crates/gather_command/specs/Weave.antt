-- The records of all nodes, woven: which entry comes when, and the events that it becomes.
use Rattle.std.specs.Prelude.{◌≡◌, ℕ, List, [], ◌∷◌, ◌++◌, Option, Some, None, drop, map, slice_index_or, slice_set}
use Rattle.record_gathering.specs.configuration.run_model.World.{World}
use Rattle.record_gathering.specs.configuration.run_model.Run.{run}
use Rattle.record_gathering.specs.configuration.run_model.declared.event.Event.{Event}
use Rattle.record_gathering.specs.flight_records.declared.entry.Entry.{Entry}
use Rattle.record_gathering.specs.Accepted.{accepted}
use Rattle.record_gathering.specs.Entries.{entry_events}
use Rattle.record_gathering.specs.Fields.{fields_of}
use Rattle.record_gathering.specs.declared.fields.Field.{Field}
use Rattle.record_gathering.specs.Order.{IsNext, head_of}
use Rattle.record_gathering.specs.Queues.{queue_of, queues_after}

-- the first entry of those that are still to come
abbrev pub next_of : List Entry → Option Entry
next_of [] = None
next_of (e ∷ es) = Some e

-- the next entry of each node's record, by the nodes
abbrev pub heads_of : List (List Entry) → List (Option Entry)
heads_of records = map next_of records

-- the entries that are still to come once v's next one has come
abbrev pub without_next : List (List Entry) → ℕ → List (List Entry)
without_next records v = slice_set records v (drop 1 (slice_index_or records v []))

-- the events that an entry of v's record becomes: those that it stands for, without those that are refused
abbrev pub events_at : World → List (List ℕ) → ℕ → Entry → List Event
events_at w queues v e = accepted w (entry_events w (queue_of queues v) v e.noted)

-- the world that they lead to
abbrev pub world_after : World → List (List ℕ) → ℕ → Entry → World
world_after w queues v e = run w (events_at w queues v e)

-- An entry that was woven: the node whose record it is from, the events that it became, the ticket that
-- the node lends the lock to after them, and which fields of the node differed before them.
pub record Moment : Type 0 where
  pub node : ℕ
  pub entry : Entry
  pub events : List Event
  pub lent : Option ℕ
  pub fields : List (Option Field)

abbrev pub moment_at : World → List (List ℕ) → ℕ → Entry → Moment
moment_at w queues v e = record {
  node = v;
  entry = e;
  events = events_at w queues v e;
  lent = ((world_after w queues v e).node v).desk.lent;
  fields = fields_of w (queue_of queues v) v e.noted;
}

-- the events of all these moments
abbrev pub events_of : List Moment → List Event
events_of [] = []
events_of (m ∷ ms) = m.events ++ events_of ms

-- The entries that are still to come of each node's record are woven from this world, with these queues:
-- either none is left, or the entry that comes next becomes events, and the others are woven from the
-- world that these lead to.
pub data IsWoven : World → List (List ℕ) → List (List Entry) → List Moment → Type 0 where
  NoneLeft : {w : World} {queues : List (List ℕ)} {records : List (List Entry)}
      → IsNext w (heads_of records) w.net.nodes None → IsWoven w queues records []
  Next : {w : World} {queues : List (List ℕ)} {records : List (List Entry)} {v : ℕ} {e : Entry} {ms : List Moment}
      → IsNext w (heads_of records) w.net.nodes (Some v) → head_of (heads_of records) v ≡ Some e
      → IsWoven (world_after w queues v e) (queues_after queues v e.noted) (without_next records v) ms
      → IsWoven w queues records (moment_at w queues v e ∷ ms)

-- The first of the entries that are still to come of each node's record are woven from this world, with
-- these queues; they lead to a world and queues, and to those that are still to come then.
pub data IsLed : World → List (List ℕ) → List (List Entry) → List Moment
    → World → List (List ℕ) → List (List Entry) → Type 0 where
  Stays : {w : World} {queues : List (List ℕ)} {records : List (List Entry)}
      → IsLed w queues records [] w queues records
  Leads : {w new : World} {queues later : List (List ℕ)} {records left : List (List Entry)} {v : ℕ} {e : Entry} {ms : List Moment}
      → IsNext w (heads_of records) w.net.nodes (Some v) → head_of (heads_of records) v ≡ Some e
      → IsLed (world_after w queues v e) (queues_after queues v e.noted) (without_next records v) ms new later left
      → IsLed w queues records (moment_at w queues v e ∷ ms) new later left
