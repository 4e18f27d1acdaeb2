-- A run is watched from its start on, event by event.
use Rattle.std.proofs.Common.{◌≡◌, ◌∙◌, ap, sym, subst, ℕ, Bool, true, false, List, [], ◌∷◌, ◌++◌, Option, Some, None, IsTrue, append_assoc, refl, arith, inl, inr}
use Rattle.std.specs.Prelude.{◌↔◌, if◌then◌else◌}
use Rattle.std.proofs.lemmas.List.{append-nil}
use Rattle.run_model.specs.World.{World}
use Rattle.run_model.specs.Step.{step}
use Rattle.run_model.specs.Run.{run}
use Rattle.run_model.specs.Count.{IsSweepCount}
use Rattle.run_model.specs.Headline.{IsServing}
use Rattle.run_model.specs.declared.event.Event.{Event}
use Rattle.judge.specs.configuration.ConfigurationView.{ConfigurationView, world_of}
use Rattle.judge.specs.Judging.{counted_up_to}
use Rattle.judge.specs.configuration.Sight.{IsTouchedSight}
use Rattle.judge.specs.configuration.declared.sight.Sight.{Sight}
use Rattle.experiments.specs.Recovery.{HoldsAfterEach, IsLastFailure, FailsLast, IsLastNow}

pub run-append : (w : World) (xs ys : List Event) → run w (xs ++ ys) ≡ run (run w xs) ys
run-append w [] ys = refl
run-append w (x ∷ xs) ys = run-append (step w x) xs ys

module _ (Fact : World → Type 0) where
  holds-more : (w : World) (es : List Event) (e : Event) → HoldsAfterEach Fact w es → Fact (run w (es ++ e ∷ [])) → HoldsAfterEach Fact w (es ++ e ∷ [])
  holds-more w [] e each last = (last, tt)
  holds-more w (x ∷ es) e each last = (each.0, holds-more (step w x) es e each.1 last)

  -- the failure is the last one still if the fact holds after one more event
  failure-stays : (start : World) (es : List Event) (e : Event) (sweeps : ℕ) → IsLastFailure Fact start es sweeps → Fact (run start (es ++ e ∷ []))
      → IsLastFailure Fact start (es ++ e ∷ []) sweeps
  failure-stays start es e sweeps f holds =
      let parts : es ++ e ∷ [] ≡ f.front ++ (f.back ++ e ∷ []) = ap (λ xs. xs ++ e ∷ []) f.parts ∙ append_assoc f.front f.back (e ∷ []) in
      record {
        front = f.front;
        back = f.back ++ e ∷ [];
        parts = parts;
        count = f.count;
        counted = f.counted;
        sweeps_are = f.sweeps_are;
        fails = f.fails;
        holds_then = holds-more (run start f.front) f.back e f.holds_then
            (subst Fact (ap (run start) parts ∙ run-append start f.front (f.back ++ e ∷ [])) holds);
      }

  last-stays : (start : World) (es : List Event) (e : Event) (last : Option ℕ) → FailsLast Fact start es last → Fact (run start (es ++ e ∷ []))
      → FailsLast Fact start (es ++ e ∷ []) last
  last-stays start es e None f holds = (f.0, holds-more start es e f.1 holds)
  last-stays start es e (Some sweeps) f holds = failure-stays start es e sweeps f holds

  -- it fails now
  fails-now : (start : World) (es : List Event) (sweeps : ℕ) → (count : ℕ) → IsSweepCount start es count → sweeps ≡ counted_up_to count
      → ¬ Fact (run start es) → IsLastFailure Fact start es sweeps
  fails-now start es sweeps count counted are fails =
      record {
        front = es;
        back = [];
        parts = sym (append-nil es);
        count = count;
        counted = counted;
        sweeps_are = are;
        fails = fails;
        holds_then = tt;
      }

  pub last-goes_on : (start now : World) (es : List Event) (e : Event) (sweeps count : ℕ) (before after : Option ℕ) → FailsLast Fact start es before
      → now ≡ run start (es ++ e ∷ []) → IsSweepCount start (es ++ e ∷ []) count → sweeps ≡ counted_up_to count → IsLastNow Fact now sweeps before after
      → FailsLast Fact start (es ++ e ∷ []) after
  last-goes_on start now es e sweeps count before after f same counted are last =
      elim last [
        | inl ok ↦
            subst (FailsLast Fact start (es ++ e ∷ [])) (sym ok.1) (last-stays start es e before f (subst Fact same ok.0))
        | inr out ↦
            subst (FailsLast Fact start (es ++ e ∷ [])) (sym out.1)
            (fails-now start (es ++ e ∷ []) sweeps count counted are (λ holds. out.0 (subst Fact (sym same) holds)))
      ]

  pub last-begins : (start now : World) (sweeps count : ℕ) (after : Option ℕ) → now ≡ start → IsSweepCount start [] count → sweeps ≡ counted_up_to count
      → IsLastNow Fact now sweeps None after → FailsLast Fact start [] after
  last-begins start now sweeps count after same counted are last =
      elim last [
        | inl ok ↦ subst (FailsLast Fact start []) (sym ok.1) (subst Fact same ok.0, tt)
        | inr out ↦
            subst (FailsLast Fact start []) (sym out.1) (fails-now start [] sweeps count counted are (λ holds. out.0 (subst Fact (sym same) holds)))
      ]

  -- the last failure by a flag that says whether the fact holds
  pub last-by : (w : World) (holds : Bool) (sweeps : ℕ) (before after : Option ℕ) → IsTrue holds ↔ Fact w
      → after ≡ (if holds then before else Some sweeps) → IsLastNow Fact w sweeps before after
  last-by w true sweeps before after exact is = inl (exact.0 refl, is)
  last-by w false sweeps before after exact is = inr (λ fact. let wrong = exact.1 fact in grind arith, is)

-- the flag is set exactly if the world serves
abbrev pub IsExact : Bool → World → Type 0
IsExact serves w = IsTrue serves ↔ IsServing w

-- whatever keeps a flag exact over an event by the sight of the touched node keeps it so here
pub exact-after : (old new read after : ConfigurationView) (e : Event) (sight : Option Sight) (served serves : Bool) → read ≡ old → after ≡ new
    → world_of new ≡ step (world_of old) e → IsTouchedSight (world_of read) e sight → IsExact served (world_of old)
    → ((w : World) → world_of after ≡ step w e → IsTouchedSight w e sight → IsExact served w → IsExact serves (world_of after)) → IsExact serves (world_of after)
exact-after old new read after e sight served serves is_read is_after happens touched exact keeps =
    keeps (world_of old) (ap world_of is_after ∙ happens) (subst (λ j. IsTouchedSight (world_of j) e sight) is_read touched) exact
