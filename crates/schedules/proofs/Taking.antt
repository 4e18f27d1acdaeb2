-- A sink that takes a list part by part.
use Rattle.std.proofs.Common.{◌≡◌, ◌∙◌, ap, sym, subst, List, [], ◌++◌, append_assoc, refl}
use Rattle.std.proofs.lemmas.List.{append-nil}
use Rattle.configuration.specs.run_model.declared.event.Event.{Event}
use Rattle.schedules.specs.Taking.{TakesBoth, IsUnderWay}

pub begins : {S : Type 0} (takes : S → List Event → S → Type 0) → ((s : S) → takes s [] s) → (s : S) (whole : List Event) → IsUnderWay takes s whole whole s
begins takes none s whole = record { done = []; parts = refl; taken = none s }

pub goes-on : {S : Type 0} (takes : S → List Event → S → Type 0) → TakesBoth takes → (a b c : S) (whole left front rest : List Event)
    → IsUnderWay takes a whole left b → left ≡ front ++ rest → takes b front c → IsUnderWay takes a whole rest c
goes-on takes both a b c whole left front rest u split more =
    record {
      done = u.done ++ front;
      parts = u.parts ∙ ap (λ xs. u.done ++ xs) split ∙ sym (append_assoc u.done front rest);
      taken = both a b c u.done front u.taken more;
    }

pub ends : {S : Type 0} (takes : S → List Event → S → Type 0) (a b : S) (whole left : List Event) → IsUnderWay takes a whole left b → left ≡ []
    → takes a whole b
ends takes a b whole left u none =
    subst (λ xs. takes a xs b) (sym (append-nil u.done) ∙ ap (λ xs. u.done ++ xs) (sym none) ∙ sym u.parts) u.taken
