-- What becomes of a turn in a node's record.
use Rattle.std.specs.Prelude.{◌≡◌, ◌⊎◌, ◌∷◌, ◌+◌, ◌||◌, [], ℕ, Bool, true, false, not, List, Option, None, Some, flat_map, length, min, slice_get, slice_index_or}
use Rattle.std.specs.List.{range_with_len}
use Rattle.node_recorder.specs.node_follower.node_core.View.{NodeView}
use Rattle.node_connections.specs.LinkSights.{link_at}
use Rattle.node_connections.specs.declared.port.NodePort.{NodePort}
use Rattle.node_recorder.specs.flight_recorder.Recorder.{after_failure, after_write}
use Rattle.node_recorder.specs.flight_recorder.flight_records.declared.entry.Deed.{Deed}
use Rattle.node_recorder.specs.flight_recorder.flight_records.declared.entry.Deed.TheVariants.{Connects, Disconnects}
use Rattle.node_recorder.specs.Quiet.{is_quiet}
use Rattle.node_recorder.specs.Turns.{Records}
use Rattle.node_recorder.specs.declared.recorder.NodeRecorder.{NodeRecorder}
use Rattle.turn_watch.specs.declared.links.LinkSight.{LinkSight}

-- a link is seen, and it is up
abbrev pub is_seen_up : Option LinkSight → Bool
is_seen_up None = false
is_seen_up (Some sight) = sight.is_up

-- the link of this node to the node with that id is up
abbrev pub is_linked : {P : Type 0} → List (NodePort P) → ℕ → Bool
is_linked ports id = is_seen_up (link_at (slice_get ports id))

-- the deeds of a link, by whether it was up and whether it is up now: its connection began, or ended, or
-- neither
abbrev pub link_change : Bool → Bool → ℕ → List Deed
link_change false true id = Connects id ∷ []
link_change true false id = Disconnects id ∷ []
link_change _ _ id = []

-- the same for each of this many nodes, by id
abbrev pub link_changes : (ℕ → Bool) → (ℕ → Bool) → ℕ → List Deed
link_changes was is nodes = flat_map (λ id. link_change (was id) (is id) id) (range_with_len 0 nodes)

module _ {A : Type 0} (now : ℕ) (may_wait : Bool) (node : NodeView) where
  -- each of these deeds was recorded, one after the other
  abbrev pub RecordsEach : List Deed → NodeRecorder A → NodeRecorder A → Type 0
  RecordsEach [] old new = new ≡ old
  RecordsEach (d ∷ ds) old new =
      (mid : NodeRecorder A) × Records now (d ∷ []) true may_wait node old mid × RecordsEach ds mid new

-- at the end its page was written, or that failed, or it was not due
abbrev pub IsWrittenOrNot : {A : Type 0} → NodeRecorder A → NodeRecorder A → Type 0
IsWrittenOrNot old new =
    (new ≡ old)
    ⊎ ((new ≡ record old { pages = after_write old.pages })
    ⊎ (new ≡ record old { pages = after_failure old.pages }))

-- The deeds of a turn were recorded, and then the connections that began or ended.
pub record RecordsTurn {A : Type 0} (now : ℕ) (deeds : List Deed) (has_all may_wait : Bool)
    (node : NodeView) (links : List Deed) (old new : NodeRecorder A) : Type 0 where
  pub turned : NodeRecorder A
  pub linked : NodeRecorder A
  pub turn : Records now deeds has_all may_wait node old turned
  pub connections : RecordsEach now may_wait node links turned linked
  pub ends : IsWrittenOrNot linked new

module _ {A P : Type 0} (start now : ℕ) (linked : List Bool) (deeds : List Deed) (has_all must_settle : Bool)
    (node : NodeView) (ports : List (NodePort P)) where
  -- A record that has not stopped has the turn that began `now` microseconds after the node's clock stood at 0,
  -- which was at the time `start`: its deeds, and then each connection with one of at most 64 nodes that began
  -- or ended since the node had those of `linked`. Times end at 2^64 - 1. A deed may wait to be written only
  -- after a turn that was not quiet, and only if none must settle.
  abbrev pub HasTurn : NodeRecorder A → NodeRecorder A → Type 0
  HasTurn old new =
      old.pages.is_stopped ≡ false
      → RecordsTurn (min (start + now) 18446744073709551615) deeds has_all (not (is_quiet deeds || must_settle))
      node (link_changes (λ id. slice_index_or linked id false) (is_linked ports) (min (length ports) 64)) old new
