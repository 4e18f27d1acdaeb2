-- Events that are not refused.
use Rattle.std.proofs.Common.{◌≡◌, ◌∙◌, Bool, true, false, List, [], ◌∷◌, refl, ap, sym, arith, ◌||◌}
use Rattle.std.proofs.lemmas.Bool.{cond_both}
use Rattle.std.proofs.lemmas.Grind.{common_steps}
use Rattle.std.specs.Prelude.{if◌then◌else◌, is_some, is_none, Option, None, Some}
use Rattle.configuration.specs.run_model.World.{World}
use Rattle.configuration.specs.run_model.Step.{refusal, step}
use Rattle.configuration.specs.run_model.Run.{run, is_damage, has_damage}
use Rattle.configuration.specs.run_model.declared.event.Event.{Event}
use Rattle.configuration.specs.run_model.declared.event.Event.TheVariants.{Send, Take, Lose, Tick, Ask, Leave, Damage}
use Rattle.record_gathering.specs.Accepted.{accepted}

pub refused-stays : (w : World) (e : Event) → is_some (refusal w e) ≡ true → step w e ≡ w
refused-stays w e r = grind (arith, common_steps)

pub accepted-leads : (w : World) (es : List Event) → run w (accepted w es) ≡ run w es
accepted-leads w [] = refl
accepted-leads w (e ∷ es) =
    cond_both (is_some (refusal w e)) (accepted w es) (e ∷ accepted (step w e) es)
    (λ (x : List Event). run w x ≡ run (step w e) es)
    (λ r. accepted-leads w es ∙ ap (λ (x : World). run x es) (sym (refused-stays w e r)))
    (λ _. accepted-leads (step w e) es)

-- an event that is not refused comes first
taken-on : (w : World) (e : Event) (es : List Event) → is_some (refusal w e) ≡ false
    → accepted w (e ∷ es) ≡ e ∷ accepted (step w e) es
taken-on w e es a =
    ap (λ (b : Bool). if b then accepted w es else e ∷ accepted (step w e) es) a

pub none-refused : (w : World) (es : List Event) → accepted w (accepted w es) ≡ accepted w es
none-refused w [] = refl
none-refused w (e ∷ es) =
    cond_both (is_some (refusal w e)) (accepted w es) (e ∷ accepted (step w e) es)
    (λ (x : List Event). accepted w x ≡ x)
    (λ _. none-refused w es)
    (λ a. taken-on w e (accepted (step w e) es) a ∙ ap (λ (x : List Event). e ∷ x) (none-refused (step w e) es))

none-is : {X : Type 0} (o : Option X) → is_some o ≡ true → is_none o ≡ false
none-is None s = absurd cc
none-is (Some x) s = refl

-- a refused event is no damage
harmless : (w : World) (e : Event) → is_some (refusal w e) ≡ true → is_damage w e ≡ false
harmless w (Send u v) r = refl
harmless w (Take u v) r = refl
harmless w (Lose u v i) r = refl
harmless w (Tick v) r = refl
harmless w (Ask v t) r = refl
harmless w (Leave v t) r = refl
harmless w (Damage h) r = none-is (refusal w (Damage h)) r

pub same-damage : (w : World) (es : List Event) → has_damage w (accepted w es) ≡ has_damage w es
same-damage w [] = refl
same-damage w (e ∷ es) =
    cond_both (is_some (refusal w e)) (accepted w es) (e ∷ accepted (step w e) es)
    (λ (x : List Event). has_damage w x ≡ is_damage w e || has_damage (step w e) es)
    (λ r. same-damage w es
    ∙ sym (ap (λ (x : World). has_damage x es) (refused-stays w e r))
    ∙ ap (λ (b : Bool). b || has_damage (step w e) es) (sym (harmless w e r)))
    (λ _. ap (λ (b : Bool). is_damage w e || b) (same-damage (step w e) es))
