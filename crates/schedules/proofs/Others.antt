-- A round without the slow one's part, given to a sink part by part.
use Rattle.std.proofs.Common.{◌≡◌, sym, subst, List, ◌++◌}
use Rattle.std.proofs.lemmas.List.Elements.{filter-append}
use Rattle.std.specs.Prelude.{not}
use Rattle.configuration.specs.run_model.declared.event.Event.{Event}
use Rattle.schedules.specs.Slow.{is_part, others}
use Rattle.schedules.specs.Taking.{TakesBoth}
use Rattle.schedules.specs.declared.slow.Slow.{Slow}

-- the sink takes those of the events that are not the slow one's part
abbrev pub takes_others : {S : Type 0} → (S → List Event → S → Type 0) → Slow → S → List Event → S → Type 0
takes_others takes slow a es b = takes a (others slow es) b

pub others-append : (slow : Slow) (xs ys : List Event) → others slow (xs ++ ys) ≡ others slow xs ++ others slow ys
others-append slow xs ys = filter-append (λ e. not (is_part slow e)) xs ys

pub others-both : {S : Type 0} (takes : S → List Event → S → Type 0) (slow : Slow) → TakesBoth takes → TakesBoth (takes_others takes slow)
others-both takes slow both a b c xs ys one two =
    subst (λ es. takes a es c) (sym (others-append slow xs ys)) (both a b c (others slow xs) (others slow ys) one two)
