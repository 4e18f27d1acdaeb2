-- What an event does to the machines and the desk of one node: what a tick does, or the machines
-- keep their values and the desk lends only if it lent before.
use Rattle.std.proofs.Common.{◌≡◌, ℕ, ◌⊎◌, inl, inr, true, false, ◌==◌, List, [], ◌∷◌, Option, Some, None, refl, sym, ◌∙◌, ap, subst, arith}
use Rattle.std.specs.Prelude.{is_some, is_none}
use Rattle.std.proofs.lemmas.Bool.{cases_Bool, cases_eq, false≢true, cond-true, cond-false, eq-eqb, ne_eqb}
use Rattle.std.proofs.lemmas.Bool.Decides.{nat_tests}
use Rattle.link_model.specs.topology.At.{at}
use Rattle.link_model.specs.declared.item.Item.{Item}
use Rattle.link_model.specs.declared.item.Item.TheVariants.{Frame, Noise}
use Rattle.node_core.specs.lock_desk.Desk.{DeskState, asked, after_leave}
use Rattle.node_core.specs.lock_desk.Laws.{OnlyTicksLend}
use Rattle.node_core.specs.State.{LocalState}
use Rattle.node_core.specs.Step.{ticked}
use Rattle.run_model.specs.World.{World, site}
use Rattle.run_model.specs.Step.{refusal, step, changed, handed_over}
use Rattle.run_model.specs.Run.{is_damage}
use Rattle.run_model.specs.Ticks.{IsResting, IsTicking, NodesMoveInTicks, TicksAreAccepted}
use Rattle.run_model.specs.declared.event.Event.{Event}
use Rattle.run_model.specs.declared.event.EventFault.{EventFault}
use Rattle.run_model.specs.declared.event.Event.TheVariants.{Send, Take, Lose, Tick, Ask, Leave, Damage}

take-quiet : (w : World) (a c v : ℕ) (items : List Item) → IsResting w (handed_over w a c items) v
take-quiet w a c v [] = record { values = refl; loan = λ h. h }
take-quiet w a c v (Noise ∷ items) = grind (arith, nat_tests)
take-quiet w a c v (Frame f ∷ items) = grind (arith, nat_tests)

at_same : (f : ℕ → LocalState) (a v : ℕ) (s : LocalState) → v ≡ a → at f a s v ≡ s
at_same f a v s e = cond-true (v == a) s (f v) (eq-eqb v a e)

at_other : (f : ℕ → LocalState) (a v : ℕ) (s : LocalState) → (v ≡ a → ⊥) → at f a s v ≡ f v
at_other f a v s ne = cond-false (v == a) s (f v) (ne_eqb v a ne)

same_node : (w new : World) (v : ℕ) → new.node v ≡ w.node v → IsResting w new v
same_node w new v e = record { values = ap (λ (s : LocalState). s.value) e; loan = λ h. ap (λ (s : LocalState). is_some s.desk.lent) (sym e) ∙ h }

-- the node gets another desk that lends only if the old one did
desk-quiet : (w new : World) (a v : ℕ) (d : DeskState) → new.node ≡ at w.node a (record (w.node a) { desk = d })
    → (is_some d.lent ≡ true → is_some (w.node a).desk.lent ≡ true) → IsResting w new v
desk-quiet w new a v d is lent = elim (cases_eq v a) [
  | inl e ↦ (let here : new.node v ≡ record (w.node a) { desk = d } = ap (λ f. f v) is ∙ at_same w.node a v (record (w.node a) { desk = d }) e in record {
    values = ap (λ (s : LocalState). s.value) here ∙ ap (λ x. (w.node x).value) (sym e);
    loan = λ h. ap (λ x. is_some (w.node x).desk.lent) e ∙ lent (ap (λ (s : LocalState). is_some s.desk.lent) (sym here) ∙ h);
  })
  | inr ne ↦ same_node w new v (ap (λ f. f v) is ∙ at_other w.node a v (record (w.node a) { desk = d }) ne)
]

changed-quiet : (only : OnlyTicksLend) (w : World) (e : Event) (v : ℕ) → is_damage w e ≡ false → refusal w e ≡ None → IsResting w (changed w e) v ⊎ IsTicking w (changed w e) v
changed-quiet only w (Send a c) v d n = inl (grind (arith, nat_tests))
changed-quiet only w (Take a c) v d n = inl (take-quiet w a c v (w.link a c))
changed-quiet only w (Lose a c i) v d n = inl (record { values = refl; loan = λ h. h })
changed-quiet only w (Tick a) v d n = elim (cases_eq v a) [
  | inl e ↦ inr (at_same w.node a v (ticked (site w a) (w.node a)) e ∙ ap (λ x. ticked (site w x) (w.node x)) (sym e))
  | inr ne ↦ inl (same_node w (changed w (Tick a)) v (at_other w.node a v (ticked (site w a) (w.node a)) ne))
]
changed-quiet only w (Ask a t) v d n = inl (desk-quiet w (changed w (Ask a t)) a v (asked t (w.node a).desk) refl (only t (w.node a).desk).0)
changed-quiet only w (Leave a t) v d n = inl (desk-quiet w (changed w (Leave a t)) a v (after_leave t (w.node a).desk) refl (only t (w.node a).desk).1)
changed-quiet only w (Damage h) v d n = absurd (false≢true (sym d ∙ ap is_none n))

not_refused : (o : Option EventFault) → is_some o ≡ false → o ≡ None
not_refused None h = refl
not_refused (Some f) h = absurd (false≢true (sym h))

refused_same : (w : World) (e : Event) → is_some (refusal w e) ≡ true → step w e ≡ w
refused_same w e h = cond-true (is_some (refusal w e)) w (changed w e) h

accepted_changes : (w : World) (e : Event) → is_some (refusal w e) ≡ false → step w e ≡ changed w e
accepted_changes w e h = cond-false (is_some (refusal w e)) w (changed w e) h

pub quiet-or-ticks : OnlyTicksLend → NodesMoveInTicks
quiet-or-ticks only w e v d = elim (cases_Bool (is_some (refusal w e))) [
  | inl y ↦ inl (subst (λ x. IsResting w x v) (sym (refused_same w e y)) (record { values = refl; loan = λ h. h }))
  | inr n ↦ subst (λ x. IsResting w x v ⊎ IsTicking w x v) (sym (accepted_changes w e n)) (changed-quiet only w e v d (not_refused (refusal w e) n))
]

-- a tick of a node that exists is not refused
pub tick-ticks : TicksAreAccepted
tick-ticks w v l =
    let r : is_some (refusal w (Tick v)) ≡ false = grind (arith, nat_tests) in
    ap (λ (x : World). x.node v) (accepted_changes w (Tick v) r) ∙ at_same w.node v v (ticked (site w v) (w.node v)) refl
