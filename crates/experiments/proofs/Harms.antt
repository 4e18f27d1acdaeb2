-- Events that happen, and are taken, one after the other.
use Rattle.std.proofs.Common.{ℕ, ◌≤◌, List, ◌++◌, Result, Ok, Err, OnOk, arith, inl, inr}
use Rattle.byte_streams.specs.Streams.{Rose}
use Rattle.run_model.specs.declared.event.Event.{Event}
use Rattle.schedules.specs.Taking.{TakesBoth}
use Rattle.experiments.specs.Plan.{CountsSinkFailures}
use Rattle.experiments.specs.declared.plan.PlanFault.{PlanFault}
use Rattle.experiments.specs.declared.plan.PlanFault.TheVariants.{Memory, Sink}

-- the first were taken, and then the others, or there was a fault
pub then-taken : {S T E : Type 0} (takes : S → List Event → S → Type 0) → TakesBoth takes → (a b c : S) (xs ys : List Event) (r : Result T E)
    → takes a xs b → OnOk r (takes b ys c) → OnOk r (takes a (xs ++ ys) c)
then-taken takes both a b c xs ys (Ok x) first second = both a b c xs ys first second
then-taken takes both a b c xs ys (Err e) first second = tt

rises-later : (a b c : ℕ) → a ≤ b → Rose b c → Rose a c
rises-later a b c less rose = elim rose [ inl h ↦ inl (omega (arith, less, h)) | inr h ↦ inr h ]

-- a failure that is counted is counted from an earlier moment on
pub counts-later : {T : Type 0} (r : Result T PlanFault) (a b c : ℕ) → a ≤ b → CountsSinkFailures r b c → CountsSinkFailures r a c
counts-later (Ok x) a b c less h = omega (arith, less, h)
counts-later (Err Memory) a b c less h = omega (arith, less, h)
counts-later (Err Sink) a b c less h = (omega (arith, less, h.0), rises-later a b c less h.1)
