-- Small examples of lists that are judged, and some that look like them and are none.
use Rattle.std.proofs.Common.{◌≡◌, ◌≢◌, ℕ, true, [], ◌∷◌, Option, Some, None, refl, arith}
use Rattle.std.proofs.lemmas.Grind.{common_steps}
use Rattle.run_model.specs.declared.event.Event.TheVariants.{Damage, Tick}
use Rattle.run_model.specs.declared.event.Harm.TheVariants.{Empty}
use Rattle.run_model.proofs.RowsTwo.{two_nodes}
use Rattle.run_model.proofs.RowsServing.{two_tokens, two_tokens-do_not_serve}
use Rattle.experiments.specs.Delays.{is_harm, IsDelayOf, IsReplayed}
use Rattle.experiments.specs.Recovery.{counted_from, FailedLast}
use Rattle.experiments.specs.declared.delay.Delay.{Delay}
use Rattle.experiments.proofs.RowsMeasured.{last-now, none-counted, sharp-two}

abbrev delay : ℕ → ℕ → Delay
delay sweeps seen = record { sweeps = sweeps; seen = seen }

-- two tokens at the end of a list without a sweep: it serves after one sweep at the earliest
late-one : IsDelayOf two_tokens [] (delay 1 0)
late-one = (
  record {
    undamaged = refl;
    last = Some 0;
    failed = last-now;
    sweeps_are = refl;
    count = 0;
    counted = none-counted two_tokens (omega arith);
    seen_are = refl;
  },
  omega (arith, sharp-two),
)

pub needs-some : (last : Option ℕ) → FailedLast two_tokens [] last → counted_from last ≢ 0
needs-some None failed = absurd (two_tokens-do_not_serve failed.0)
needs-some (Some sweeps) failed = grind (arith, common_steps)

late_not-none : ¬ IsDelayOf two_tokens [] (delay 0 0)
late_not-none is = needs-some is.0.last is.0.failed (grind (arith, is.0.sweeps_are))

-- there is no delay if an event is a harm, and only then
replayed-harm : IsReplayed two_nodes [] (Tick 0 ∷ Damage (Empty 0 1) ∷ []) None
replayed-harm = refl

replayed_not-none : ¬ IsReplayed two_nodes [] (Tick 0 ∷ []) None
replayed_not-none is = grind (arith, is)

harm : is_harm (Damage (Empty 0 1)) ≡ true
harm = refl

harm_not-tick : is_harm (Tick 0) ≢ true
harm_not-tick = grind arith
