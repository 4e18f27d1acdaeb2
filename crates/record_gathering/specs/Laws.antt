-- What the events that entries become mean, and where they lead.
use Rattle.std.specs.Prelude.{◌≡◌, ◌≢◌, ℕ, ◌<◌, IsTrue, if◌then◌else◌, List, [], ◌∷◌, ◌++◌, drop}
use Rattle.topology.specs.declared.frame.Frame.{Frame}
use Rattle.flight_records.specs.declared.entry.Noted.{Noted}
use Rattle.flight_records.specs.declared.entry.Noted.TheVariants as noted
use Rattle.flight_records.specs.declared.entry.StatePart.{StatePart}
use Rattle.configuration.specs.link_model.declared.item.Item.TheVariants as item
use Rattle.configuration.specs.node_core.Step.{taken}
use Rattle.configuration.specs.data_link.Port.{frame_of}
use Rattle.configuration.specs.run_model.World.{World, IsWorldInRange, site}
use Rattle.configuration.specs.run_model.Step.{has_room}
use Rattle.configuration.specs.run_model.Run.{run, has_damage, IsUndamaged}
use Rattle.configuration.specs.run_model.declared.event.Event.{Event}
use Rattle.record_gathering.specs.declared.facts.Fact.{Fact}
use Rattle.record_gathering.specs.Accepted.{accepted}
use Rattle.record_gathering.specs.Entries.{is_of_link, taken_events, sent_events, part_events}
use Rattle.record_gathering.specs.Facts.{set_events, set_queues}
use Rattle.record_gathering.specs.Fields.{fields_of, no_fields, Differs, AreAll}
use Rattle.record_gathering.specs.Frames.{is_under_way}
use Rattle.record_gathering.specs.Standing.{StandsAs, IsPartInRange, IsOfNeighbour, IsSameBeside}

-- The events that are not refused lead to the same world as all of them; none is refused if they
-- alone happen; and there is damage among them exactly if there is damage among all.
pub record AcceptedIsEnough : Type 0 where
  pub leads : (w : World) (es : List Event) → run w (accepted w es) ≡ run w es
  pub none_refused : (w : World) (es : List Event) → accepted w (accepted w es) ≡ accepted w es
  pub damage : (w : World) (es : List Event) → has_damage w (accepted w es) ≡ has_damage w es

-- If a node is as a part of its state was noted, the part becomes no event. A frame that is under
-- way is taken without damage, and one that the node's port sends is sent without damage.
pub record HarmsMeanDifferences : Type 0 where
  pub parts : (w : World) (queue : List ℕ) (v : ℕ) (p : StatePart) → StandsAs queue (w.node v) p
      → part_events w queue v p ≡ []
  pub taken : (w : World) (u v : ℕ) (f : Frame) → IsTrue (is_under_way f (w.link u v))
      → IsUndamaged w (taken_events w u v f)
  pub sent : (w : World) (v u : ℕ) (f : Frame) → frame_of ((w.node v).port u) ≡ f
      → IsUndamaged w (sent_events w v u f)

-- A field that is named differs from what was noted. For a part of a node's state, no field is
-- named exactly if the node is as noted; for a port, this holds if it leads to a neighbour.
pub record FieldsMeanDifferences : Type 0 where
  pub said : (w : World) (queue : List ℕ) (v : ℕ) (n : Noted) → AreAll (Differs w queue v n) (fields_of w queue v n)
  pub quiet : (w : World) (queue : List ℕ) (v : ℕ) (p : StatePart) → StandsAs queue (w.node v) p
      → fields_of w queue v (noted.State p) ≡ no_fields
  pub whole : (w : World) (queue : List ℕ) (v : ℕ) (p : StatePart) → v < w.net.nodes → IsOfNeighbour w v p
      → fields_of w queue v (noted.State p) ≡ no_fields → StandsAs queue (w.node v) p

-- after a part of v's state that is in range: v is as the part says, and all else is as it was
pub record IsReached (w : World) (queue : List ℕ) (v : ℕ) (p : StatePart) (new : World) : Type 0 where
  pub stands : StandsAs queue (new.node v) p
  pub beside : IsSameBeside p (w.node v) (new.node v)
  pub others : (x : ℕ) → x ≢ v → new.node x ≡ w.node x
  pub links : new.link ≡ w.link
  pub network : new.net ≡ w.net

-- This holds in a world in range. After a part of a node's state that is in range, the node is as
-- it was noted. After a frame that was taken, and may be on its link, the node is as if it had
-- taken that frame; after one that was sent, and may be on its link, that frame is the newest
-- there.
pub record ReplaysFollowRecords : Type 0 where
  pub parts : (w : World) (queue : List ℕ) (v : ℕ) (p : StatePart) → IsWorldInRange w
      → v < w.net.nodes → IsPartInRange w queue v p
      → IsReached w queue v p (run w (part_events w queue v p))
  pub taken : (w : World) (u v : ℕ) (f : Frame) → IsWorldInRange w
      → IsTrue (is_of_link w u v f)
      → (run w (taken_events w u v f)).node v ≡ taken (site w v) u (item.Frame f) (w.node v)
  pub sent : (w : World) (v u : ℕ) (f : Frame) → IsWorldInRange w
      → IsTrue (is_of_link w v u f)
      → (run w (sent_events w v u f)).link v u
      ≡ (if has_room w v u then w.link v u else drop 1 (w.link v u)) ++ item.Frame f ∷ []

-- Facts that are set in two parts become the same events as facts that are set together. None of
-- these events is refused.
pub record FactsJoin : Type 0 where
  pub events : (w : World) (queues : List (List ℕ)) (xs ys : List Fact)
      → set_events w queues (xs ++ ys)
      ≡ set_events w queues xs ++ set_events (run w (set_events w queues xs)) (set_queues queues xs) ys
  pub queues : (queues : List (List ℕ)) (xs ys : List Fact)
      → set_queues queues (xs ++ ys) ≡ set_queues (set_queues queues xs) ys
  pub none_refused : (w : World) (queues : List (List ℕ)) (fs : List Fact)
      → accepted w (set_events w queues fs) ≡ set_events w queues fs
