-- The moment after the last damage, as events come.
use Rattle.std.proofs.Common.{◌≡◌, ℕ, List, [], ◌∷◌, ◌++◌, true, false, ◌||◌, refl, sym, ◌∙◌, ap, subst, inl, inr}
use Rattle.std.specs.Prelude.{if◌then◌else◌}
use Rattle.std.proofs.lemmas.Bool.{cases_Bool, cond-true, cond-false, or_left, or_right, or_from}
use Rattle.std.proofs.Math.Bool.{or_assoc, or_comm}
use Rattle.run_model.specs.World.{World, IsWorldInRange}
use Rattle.run_model.specs.Step.{step}
use Rattle.run_model.specs.Run.{run, is_damage, has_damage, IsUndamaged}
use Rattle.run_model.specs.Count.{Moment, after_damage}
use Rattle.run_model.specs.Privilege.{is_privileged}
use Rattle.run_model.specs.Visited.{is_privileged_once, is_visited}
use Rattle.run_model.specs.declared.event.Event.{Event}

-- the moment is after the first event if there is damage in the list, else before it
skips : (w : World) (e : Event) (es : List Event) → has_damage w (e ∷ es) ≡ true → after_damage w (e ∷ es) ≡ after_damage (step w e) es
skips w e es h = cond-true (has_damage w (e ∷ es)) (after_damage (step w e) es) (record { world = w; rest = e ∷ es }) h

stands : (w : World) (es : List Event) → has_damage w es ≡ false → after_damage w es ≡ record { world = w; rest = es }
stands w [] h = refl
stands w (e ∷ es) h = cond-false (has_damage w (e ∷ es)) (after_damage (step w e) es) (record { world = w; rest = e ∷ es }) h

-- ---- damage in a list and one more event

more-damage : (w : World) (es : List Event) (e : Event) → has_damage w (es ++ e ∷ []) ≡ (has_damage w es || is_damage (run w es) e)
more-damage w [] e = or_comm (is_damage w e) false
more-damage w (x ∷ es) e =
    ap (λ b. is_damage w x || b) (more-damage (step w x) es e) ∙ sym (or_assoc (is_damage w x) (has_damage (step w x) es) (is_damage (run (step w x) es) e))

pub moment-stays : (w : World) (es : List Event) (e : Event) → is_damage (run w es) e ≡ false
    → after_damage w (es ++ e ∷ []) ≡ record { world = (after_damage w es).world; rest = (after_damage w es).rest ++ e ∷ [] }
moment-stays w [] e fine = stands w (e ∷ []) (or_from (is_damage w e) false fine refl)
moment-stays w (x ∷ es) e fine = elim (cases_Bool (has_damage w (x ∷ es))) [
  | inl there ↦
      skips w x (es ++ e ∷ []) (more-damage w (x ∷ es) e ∙ or_left (has_damage w (x ∷ es)) (is_damage (run w (x ∷ es)) e) there)
      ∙ moment-stays (step w x) es e fine
      ∙ ap (λ (m : Moment). record { world = m.world; rest = m.rest ++ e ∷ [] }) (sym (skips w x es there))
  | inr none ↦
      stands w (x ∷ (es ++ e ∷ [])) (more-damage w (x ∷ es) e ∙ or_from (has_damage w (x ∷ es)) (is_damage (run w (x ∷ es)) e) none fine)
      ∙ ap (λ (m : Moment). record { world = m.world; rest = m.rest ++ e ∷ [] }) (sym (stands w (x ∷ es) none))
]

pub moment-moves : (w : World) (es : List Event) (e : Event) → is_damage (run w es) e ≡ true
    → after_damage w (es ++ e ∷ []) ≡ record { world = step (run w es) e; rest = [] }
moment-moves w [] e harm = skips w e [] (or_left (is_damage w e) false harm)
moment-moves w (x ∷ es) e harm =
    skips w x (es ++ e ∷ []) (more-damage w (x ∷ es) e ∙ or_right (has_damage w (x ∷ es)) (is_damage (run w (x ∷ es)) e) harm)
    ∙ moment-moves (step w x) es e harm

-- ---- the moment, and from it to the end

-- from a moment of a run, the rest leads to the end without damage
pub record LeadsTo (end : World) (m : Moment) : Type 0 where
  pub range : IsWorldInRange m.world
  pub fine : IsUndamaged m.world m.rest
  pub leads : run m.world m.rest ≡ end

pub moment-leads : ((w : World) (e : Event) → IsWorldInRange w → IsWorldInRange (step w e)) → (w : World) (es : List Event) → IsWorldInRange w
    → LeadsTo (run w es) (after_damage w es)
moment-leads stays w [] range = record { range = range; fine = refl; leads = refl }
moment-leads stays w (e ∷ es) range = elim (cases_Bool (has_damage w (e ∷ es))) [
  | inl there ↦ subst (LeadsTo (run w (e ∷ es))) (sym (skips w e es there)) (moment-leads stays (step w e) es (stays w e range))
  | inr none ↦ subst (LeadsTo (run w (e ∷ es))) (sym (stands w (e ∷ es) none)) (record { range = range; fine = none; leads = refl })
]

leads-on : (w : World) (es : List Event) → run (after_damage w es).world (after_damage w es).rest ≡ run w es
leads-on w [] = refl
leads-on w (e ∷ es) = elim (cases_Bool (has_damage w (e ∷ es))) [
  | inl there ↦ ap (λ (m : Moment). run m.world m.rest) (skips w e es there) ∙ leads-on (step w e) es
  | inr none ↦ ap (λ (m : Moment). run m.world m.rest) (stands w (e ∷ es) none)
]

-- ---- visits

once-more : (w : World) (es : List Event) (e : Event) (v : ℕ)
    → is_privileged_once w (es ++ e ∷ []) v ≡ (is_privileged_once w es v || is_privileged (step (run w es) e) v)
once-more w [] e v = refl
once-more w (x ∷ es) e v =
    ap (λ b. is_privileged w v || b) (once-more (step w x) es e v)
    ∙ sym (or_assoc (is_privileged w v) (is_privileged_once (step w x) es v) (is_privileged (step (run (step w x) es) e) v))

pub visits-go_on : (w : World) (es : List Event) (e : Event) (v : ℕ)
    → is_visited w (es ++ e ∷ []) v ≡ ((if is_damage (run w es) e then false else is_visited w es v) || is_privileged (step (run w es) e) v)
visits-go_on w es e v =
    let new = is_privileged (step (run w es) e) v in
    elim (cases_Bool (is_damage (run w es) e)) [
      | inl harm ↦
          ap (λ (m : Moment). is_privileged_once m.world m.rest v) (moment-moves w es e harm)
          ∙ sym (ap (λ b. b || new) (cond-true (is_damage (run w es) e) false (is_visited w es v) harm))
      | inr fine ↦
          ap (λ (m : Moment). is_privileged_once m.world m.rest v) (moment-stays w es e fine)
          ∙ once-more (after_damage w es).world (after_damage w es).rest e v
          ∙ ap (λ x. is_visited w es v || is_privileged (step x e) v) (leads-on w es)
          ∙ sym (ap (λ b. b || new) (cond-false (is_damage (run w es) e) false (is_visited w es v) fine))
    ]
