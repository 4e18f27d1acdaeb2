-- Lists without harms, and one with a harm.
use Rattle.std.proofs.Common.{◌≡◌, [], ◌∷◌, refl, arith}
use Rattle.layers.specs.configuration.run_model.declared.event.Event.TheVariants.{Damage, Leave, Send, Take, Tick}
use Rattle.layers.specs.configuration.run_model.declared.event.Harm.TheVariants.{Empty}
use Rattle.experiments.specs.Moves.{AreMoves}

moves-none : AreMoves []
moves-none = refl

moves-pass : AreMoves (Tick 0 ∷ Send 0 1 ∷ Take 0 1 ∷ Leave 1 7 ∷ [])
moves-pass = refl

moves_not-harm : ¬ AreMoves (Tick 0 ∷ Damage (Empty 0 1) ∷ [])
moves_not-harm are = grind (arith, are)
