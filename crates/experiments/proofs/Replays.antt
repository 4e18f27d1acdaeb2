-- A list without harms is without damage, in whatever world it happens.
use Rattle.std.proofs.Common.{◌≡◌, false, List, [], ◌∷◌, arith, refl}
use Rattle.std.specs.List.{list_any}
use Rattle.run_model.specs.World.{World}
use Rattle.run_model.specs.Step.{step}
use Rattle.run_model.specs.Run.{IsUndamaged}
use Rattle.run_model.specs.declared.event.Event.{Event}
use Rattle.run_model.specs.declared.event.Event.TheVariants.{Send, Take, Lose, Tick, Ask, Leave, Damage}
use Rattle.experiments.specs.Delays.{is_harm}

pub harmless-list : (w : World) (es : List Event) → list_any is_harm es ≡ false → IsUndamaged w es
harmless-list w [] none = refl
harmless-list w (Send u v ∷ es) none = harmless-list (step w (Send u v)) es none
harmless-list w (Take u v ∷ es) none = harmless-list (step w (Take u v)) es none
harmless-list w (Lose u v i ∷ es) none = harmless-list (step w (Lose u v i)) es none
harmless-list w (Tick v ∷ es) none = harmless-list (step w (Tick v)) es none
harmless-list w (Ask v t ∷ es) none = harmless-list (step w (Ask v t)) es none
harmless-list w (Leave v t ∷ es) none = harmless-list (step w (Leave v t)) es none
harmless-list w (Damage h ∷ es) none = absurd (grind (arith, none))

-- nor is an event that is no harm
pub step-harmless : (w : World) (e : Event) → is_harm e ≡ false → IsUndamaged w (e ∷ [])
step-harmless w e calm = let none : list_any is_harm (e ∷ []) ≡ false = grind (arith, calm) in harmless-list w (e ∷ []) none
