-- The events that a node's whole state becomes, noted part after part, and where they lead.
use Rattle.std.specs.Prelude.{◌≡◌, ◌≢◌, ℕ, ◌<◌, List, [], ◌∷◌, ◌++◌}
use Rattle.flight_records.specs.declared.entry.StatePart.{StatePart}
use Rattle.node_follower.specs.Following.{AreSame}
use Rattle.node_follower.specs.Parts.{state_parts}
use Rattle.configuration.specs.node_core.State.{LocalState, IsNodeInRange}
use Rattle.configuration.specs.run_model.World.{World, IsWorldInRange, site}
use Rattle.configuration.specs.run_model.Run.{run, IsUndamaged}
use Rattle.configuration.specs.run_model.declared.event.Event.{Event}
use Rattle.record_gathering.specs.Entries.{part_events}
use Rattle.record_gathering.specs.Queues.{queue_after_part}

-- what parts of v's state become, one after the other; `queue` is what was noted to wait before
abbrev pub parts_events : World → List ℕ → ℕ → List StatePart → List Event
parts_events w queue v [] = []
parts_events w queue v (p ∷ ps) =
    part_events w queue v p
    ++ parts_events (run w (part_events w queue v p)) (queue_after_part queue p) v ps

-- what v's whole state becomes; a record names the network by a number
abbrev pub state_events : World → List ℕ → ℕ → ℕ → LocalState → List Event
state_events w queue v network s = parts_events w queue v (state_parts network (site w v) s)

-- v is in this state, and all else is as it was
pub record IsStateReached (w : World) (v : ℕ) (s : LocalState) (new : World) : Type 0 where
  pub same : AreSame (site w v).neighbours (new.node v) s
  pub others : (x : ℕ) → x ≢ v → new.node x ≡ w.node x
  pub links : new.link ≡ w.link
  pub network : new.net ≡ w.net

-- In a world in range, after a node's whole state in range was noted, the node is in it. If it was
-- in it before, there is no event; and if there is no damage, it was in it before.
pub record WholeStatesAreReached : Type 0 where
  pub reached : (w : World) (queue : List ℕ) (v network : ℕ) (s : LocalState) → IsWorldInRange w
      → v < w.net.nodes → IsNodeInRange (site w v) s
      → IsStateReached w v s (run w (state_events w queue v network s))
  pub quiet : (w : World) (queue : List ℕ) (v network : ℕ) (s : LocalState)
      → IsNodeInRange (site w v) s → AreSame (site w v).neighbours (w.node v) s
      → state_events w queue v network s ≡ []
  pub said : (w : World) (queue : List ℕ) (v network : ℕ) (s : LocalState) → IsWorldInRange w
      → v < w.net.nodes → IsNodeInRange (site w v) s
      → IsUndamaged w (state_events w queue v network s)
      → AreSame (site w v).neighbours (w.node v) s
