-- Runs on two nodes that go only through legitimate worlds, and runs that do not.
use Rattle.std.proofs.Common.{◌≡◌, List, [], ◌∷◌, refl, subst, arith}
use Rattle.k_state.specs.Ring.{IsGood}
use Rattle.run_model.specs.Run.{run}
use Rattle.run_model.specs.Headline.{IsServing}
use Rattle.run_model.specs.declared.event.Event.{Event}
use Rattle.run_model.specs.declared.event.Event.TheVariants.{Leave, Damage}
use Rattle.run_model.specs.declared.event.Harm.TheVariants as harm
use Rattle.run_model.proofs.RowsTwo.{calm, forged}
use Rattle.run_model.proofs.RowsServing.{calm-serves}
use Rattle.convergence.specs.Ring.{token_ring}
use Rattle.convergence.specs.Legitimate.{IsLegitimate}
use Rattle.convergence.specs.Closure.{IsLegitimateThroughout}
use Rattle.convergence.proofs.RowsLegitimate.{calm-is_legitimate, forged-not_legitimate}

-- the calm world before and after an event that is refused, since nobody is there to leave
refused-leave : IsLegitimateThroughout calm (Leave 0 9 ∷ [])
refused-leave [] rest parts = (calm-is_legitimate, calm-serves)
refused-leave (e ∷ []) rest parts =
    let same : Leave 0 9 ≡ e = cc in
    subst (λ x. IsLegitimate (run calm (x ∷ [])) × IsServing (run calm (x ∷ []))) same (calm-is_legitimate, calm-serves)
refused-leave (e ∷ f ∷ before) rest parts = absurd cc

-- a start that is not legitimate
forged-start : ¬ IsLegitimateThroughout forged []
forged-start through = forged-not_legitimate (through [] [] refl).0

-- node 1's machine gets another value, and then its own again
abbrev to_and_fro : List Event
to_and_fro = Damage (harm.Value 1 0 1) ∷ Damage (harm.Value 1 0 0) ∷ []

-- the token ring is as before at the end, and only the world between the two events is not legitimate
good-at_the_end : token_ring (run calm to_and_fro) ≡ token_ring calm
good-at_the_end = refl

not-in_between : ¬ IsLegitimateThroughout calm to_and_fro
not-in_between through =
    let between = (through (Damage (harm.Value 1 0 1) ∷ []) (Damage (harm.Value 1 0 0) ∷ []) refl).0 in
    let good : IsGood 7 (0 ∷ 0 ∷ 0 ∷ 1 ∷ 0 ∷ 0 ∷ []) = between.ring in
    grind arith
