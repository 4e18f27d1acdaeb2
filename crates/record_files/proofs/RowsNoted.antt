-- Turns that a record has, and some that it has not.
use Rattle.std.proofs.Common.{◌≡◌, ◌≢◌, ◌⊎◌, ◌∙◌, true, false, List, [], ◌∷◌, None, Some, refl, sym, ap, inl, inr}
use Rattle.std.specs.Prelude.{⊤, nat_le, IsTrue}
use Rattle.std.proofs.lemmas.Bool.{both_ways}
use Rattle.node_recorder.specs.node_follower.node_core.View.{NodeView}
use Rattle.node_recorder.specs.Backlog.{has_room, is_long, nothing, with_turn}
use Rattle.node_recorder.specs.flight_recorder.flight_records.declared.entry.Deed.{Deed}
use Rattle.node_recorder.specs.flight_recorder.flight_records.declared.entry.Deed.TheVariants.{Asks, Connects, Disconnects}
use Rattle.node_recorder.specs.Turns.{Records}
use Rattle.node_recorder.specs.declared.recorder.NodeRecorder.{NodeRecorder}
use Rattle.record_files.specs.Noted.{is_linked, is_seen_up, link_change, link_changes, HasTurn, IsWrittenOrNot, RecordsEach, RecordsTurn}

-- of three links that were down the last came up; of three that were up the first went down
changes-up : link_changes (λ id. false) (λ id. nat_le 2 id) 3 ≡ Connects 2 ∷ []
changes-up = refl

changes-down : link_changes (λ id. true) (λ id. nat_le 1 id) 3 ≡ Disconnects 0 ∷ []
changes-down = refl

changes_not-silent : link_changes (λ id. false) (λ id. nat_le 2 id) 3 ≡ [] → ⊥
changes_not-silent e = absurd cc

change-ends : link_change true false 5 ≡ Disconnects 5 ∷ []
change-ends = refl

change_not-still : link_change true true 5 ≡ []
change_not-still = refl

-- of a node without a port no link is up
linked_not-there : (P : Type 0) → is_linked {P = P} [] 2 ≡ false
linked_not-there P = refl

seen-up : is_seen_up (Some (record { is_up = true; made = 1 })) ≡ true
seen-up = refl

seen_not-none : is_seen_up None ≡ false
seen_not-none = refl

module _ {A : Type 0} (node : NodeView) where
  -- a recorder that has stopped records nothing
  each-stopped : (old : NodeRecorder A) → old.pages.is_stopped ≡ true → RecordsEach 5 false node (Connects 2 ∷ []) old old
  each-stopped old stopped = (old, inl (stopped, refl), refl)

  each_not-changed : (old new : NodeRecorder A) → new ≢ old → ¬ RecordsEach 5 false node [] old new
  each_not-changed old new other = other

  turn-stopped : (old : NodeRecorder A) → old.pages.is_stopped ≡ true → RecordsTurn 5 (Asks 3 ∷ []) true true node [] old old
  turn-stopped old stopped = record { turned = old; linked = old; turn = inl (stopped, refl); connections = refl; ends = inl refl }

  backlog-kept : (old new : NodeRecorder A) → IsWrittenOrNot old new → new.backlog ≡ old.backlog
  backlog-kept old new (inl e) = ap (λ r. r.backlog) e
  backlog-kept old new (inr (inl e)) = ap (λ r. r.backlog) e
  backlog-kept old new (inr (inr e)) = ap (λ r. r.backlog) e

  written_not-cleared : (old new : NodeRecorder A) → old.backlog ≡ with_turn 5 (Asks 3 ∷ []) nothing → new.backlog ≡ nothing → ¬ IsWrittenOrNot old new
  written_not-cleared old new was is ends =
      let e : ◌≡◌ {A = List Deed} [] (Asks 3 ∷ []) = ap (λ b. b.deeds) (sym is ∙ (backlog-kept old new ends ∙ was)) in absurd cc

  due : (old : NodeRecorder A) → old.backlog ≡ nothing → (true ≡ false) ⊎ IsTrue (is_long (with_turn 5 (Asks 3 ∷ []) old.backlog)) → ⊥
  due old none (inl e) = absurd cc
  due old none (inr e) = both_ways (is_long (with_turn 5 (Asks 3 ∷ []) old.backlog)) (rw none refl) e

  skipped : (old turned linked : NodeRecorder A) → old.pages.is_stopped ≡ false → old.is_lost ≡ false → old.backlog ≡ nothing → Records 5 (Asks 3 ∷ []) true true node old turned
      → linked ≡ turned → IsWrittenOrNot linked old → ⊥
  skipped old turned linked runs known none (inl rests) same ends = both_ways old.pages.is_stopped runs rests.0
  skipped old turned linked runs known none (inr (inl state)) same ends = both_ways old.is_lost known state.lost
  skipped old turned linked runs known none (inr (inr (inl all))) same ends =
      both_ways (has_room 1 old.backlog) (all.needed refl) (rw none refl)
  skipped old turned linked runs known none (inr (inr (inr (inl keeps)))) same ends =
      let kept : linked.backlog ≡ with_turn 5 (Asks 3 ∷ []) old.backlog = ap (λ r. r.backlog) (same ∙ keeps.rest) in
      let e : ◌≡◌ {A = List Deed} [] (Asks 3 ∷ []) =
      ap (λ b. b.deeds) (sym none ∙ (backlog-kept linked old ends ∙ (kept ∙ ap (λ b. with_turn 5 (Asks 3 ∷ []) b) none))) in absurd cc
  skipped old turned linked runs known none (inr (inr (inr (inr now)))) same ends = due old none now.due

  -- one that runs may not leave out a deed
  turn_not-skipped : (old : NodeRecorder A) → old.pages.is_stopped ≡ false → old.is_lost ≡ false → old.backlog ≡ nothing → ¬ RecordsTurn 5 (Asks 3 ∷ []) true true node [] old old
  turn_not-skipped old runs known none x = skipped old x.turned x.linked runs known none x.turn x.connections x.ends

  -- so for a record: one that has stopped need not have it
  has-turn_stopped : (old : NodeRecorder A) → old.pages.is_stopped ≡ true → HasTurn {P = ⊤} 2 3 [] (Asks 3 ∷ []) true false node [] old old
  has-turn_stopped old stopped runs = absurd (both_ways old.pages.is_stopped runs stopped)

  has-turn_not-skipped : (old : NodeRecorder A) → old.pages.is_stopped ≡ false → old.is_lost ≡ false → old.backlog ≡ nothing → ¬ HasTurn {P = ⊤} 2 3 [] (Asks 3 ∷ []) true false node [] old old
  has-turn_not-skipped old runs known none h = turn_not-skipped old runs known none (h runs)
