-- Small examples of what is noted.
use Rattle.std.proofs.Common.{◌≡◌, ◌≢◌, ◌≤◌, ◌∷◌, ℕ, true, false, List, length, map, refl, ap, arith, []}
use Rattle.std.proofs.lemmas.Grind.{common_steps}
use Rattle.std.proofs.lemmas.List.Elements.{All-nil}
use Rattle.flight_records.specs.declared.entry.Deed as entries
use Rattle.flight_records.specs.declared.entry.Deed.TheVariants as entry
use Rattle.lock_desk.specs.declared.client_line.ClientLine.TheVariants.{Lock, Status}
use Rattle.node_core.specs.State.{LocalState}
use Rattle.node_core.specs.View.{NodeView, site_in, state_of}
use Rattle.node_core.specs.declared.ticked.Ticked.{Ticked}
use Rattle.topology.specs.declared.frame.Frame.{Frame}
use Rattle.node_service.specs.Deeds.{Acts, Asks, Deed, IsLeave, IsTake, Leads, Leaves, Sends, Takes, Ticks}
use Rattle.node_service.specs.NotesView.{NotesView}
use Rattle.node_service.specs.Noting.{after_all, after_note, as_entry, deeds_of_line, Did, DidAct, emptied, sends_if}

-- notes without room, and with room for two deeds
none : NotesView
none = record { deeds = []; room = 0; is_torn = false }

two : NotesView
two = record { deeds = []; room = 2; is_torn = false }

-- deeds are noted in their order
notes-order : after_all (Asks 7 ∷ Ticks ∷ []) two ≡ record { deeds = entry.Asks 7 ∷ entry.Ticks ∷ []; room = 2; is_torn = false }
unfolding two
notes-order = refl

-- a third one has no room
notes_not-third : after_all (Ticks ∷ Ticks ∷ Leaves 7 ∷ []) two ≡ record { deeds = entry.Ticks ∷ entry.Ticks ∷ []; room = 2; is_torn = true }
unfolding two
notes_not-third = refl

-- without room nothing is noted, and that is known
notes_not-any : after_all (Ticks ∷ []) none ≡ record { deeds = []; room = 0; is_torn = true }
unfolding none
notes_not-any = refl

notes_not-unknown : (after_all (Ticks ∷ []) none).is_torn ≢ false
unfolding none
notes_not-unknown = grind arith

-- the next turn begins without deeds
begins-again : emptied (record { deeds = entry.Ticks ∷ []; room = 1; is_torn = true }) ≡ record { deeds = []; room = 1; is_torn = false }
begins-again = refl

-- a client that looks does nothing
notes-lock : deeds_of_line 7 Lock ≡ Asks 7 ∷ []
notes-lock = refl

notes_not-status : deeds_of_line 7 Status ≡ []
notes_not-status = refl

-- each deed is noted as what it is
notes-each : (w : ℕ) (f : Frame) → map as_entry (Takes w f ∷ Asks 7 ∷ Leaves 8 ∷ Ticks ∷ Sends w f ∷ [])
    ≡ entry.Takes w f ∷ entry.Asks 7 ∷ entry.Leaves 8 ∷ entry.Ticks ∷ entry.Sends w f ∷ []
notes-each w f = refl

notes_not-leave : ¬ (as_entry (Asks 7) ≡ entry.Leaves 7)
notes_not-leave e = absurd cc

-- a frame that the link did not accept was not sent
sends-accepted : (f : Frame) → sends_if true 2 f ≡ Sends 2 f ∷ []
sends-accepted f = refl

sends_not-refused : (f : Frame) → sends_if false 2 f ≡ []
sends_not-refused f = refl

-- ---- what was done, and just that noted

abbrev blank : NotesView
blank = record { deeds = []; room = 2; is_torn = false }

abbrev with_tick : NotesView
with_tick = record blank { deeds = entry.Ticks ∷ [] }

one-more : (d : entries.Deed) (n : NotesView) → length n.deeds ≤ length (after_note d n).deeds
one-more d n = grind (arith, common_steps)

-- no deed is taken back
grows : (ds : List Deed) (n : NotesView) → length n.deeds ≤ length (after_all ds n).deeds
grows [] n = omega arith
grows (d ∷ ds) n = omega (arith, one-more (as_entry d) n, grows ds (after_note (as_entry d) n))

module _ (node other : NodeView) where
  did-nothing : Did IsTake node node blank blank
  did-nothing = record { became = record { site = refl; deeds = []; kinds = All-nil IsTake; leads = refl }; noted = refl }

  -- a node is not at another distance by deeds of which none is noted
  silent : (ds : List Deed) → node.distance ≡ 2 → other.distance ≡ 0 → Leads (site_in node) ds (state_of node) (state_of other)
      → blank ≡ after_all ds blank → ⊥
  silent [] before after leads noted =
      let e : other.distance ≡ node.distance = ap (λ (s : LocalState). s.distance) leads in omega (arith, before, after, e)
  silent (d ∷ ds) before after leads noted =
      let none : 0 ≡ length (after_all ds (after_note (as_entry d) blank)).deeds = ap (λ (n : NotesView). length n.deeds) noted in
      let some : 1 ≤ length (after_all ds (after_note (as_entry d) blank)).deeds = grows ds (after_note (as_entry d) blank) in
      omega (arith, none, some)

  did_not-silent : node.distance ≡ 2 → other.distance ≡ 0 → ¬ Did IsTake node other blank blank
  did_not-silent before after did = silent did.became.deeds before after did.became.leads did.noted

  module _ (says : Ticked) where
    -- a tick is noted
    acts-ticked : (a : Acts says node other) → a.leaves.deeds ≡ [] → DidAct IsLeave says node other blank with_tick
    acts-ticked a none = record { acts = a; kinds = a.leaves.kinds; noted = rw none refl }

    -- and is not left out
    acts_not-silent : ¬ DidAct IsLeave says node other blank blank
    acts_not-silent did =
        let none : 0 ≡ length (after_all did.acts.leaves.deeds with_tick).deeds = ap (λ (n : NotesView). length n.deeds) did.noted in
        let some : 1 ≤ length (after_all did.acts.leaves.deeds with_tick).deeds = grows did.acts.leaves.deeds with_tick in
        omega (arith, none, some)
