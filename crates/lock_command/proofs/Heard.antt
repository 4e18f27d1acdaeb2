-- Whoever takes a step at each event, and hears all that happened.
use Rattle.std.proofs.Common.{◌≡◌, ◌∙◌, ap, sym, Bool, Option, Some, List, [], ◌∷◌, ◌++◌, option_map, refl, arith}

-- all that was heard, from the first event on, led from the first stage to this one
abbrev pub HasHeard : {E S : Type 0} → (Bool → S → List E → S) → S → Bool → Option (List E) → Option (List E) → S → Type 0
HasHeard {E = E} all first keeps from now stage = from ≡ Some [] → (events : List E) × (now ≡ Some events) × (all keeps first events ≡ stage)

-- the same after one thing more, and of what is then known
abbrev pub HearsOn : {E S : Type 0} → (Bool → E → S → S) → (Bool → S → List E → S) → S → Type 0
HearsOn {E = E} {S = S} after all first =
    (keeps had : Bool) (from now next known : Option (List E)) (stage new : S) (e : E) → had ≡ keeps → HasHeard all first keeps from now stage
    → next ≡ option_map (λ events. events ++ e ∷ []) now → known ≡ next → new ≡ after had e stage → HasHeard all first keeps from known new

-- steps at one event after the other
module _ {E S : Type 0} (after : Bool → E → S → S) (all : Bool → S → List E → S) (none : (keeps : Bool) (stage : S) → all keeps stage [] ≡ stage)
    (more : (keeps : Bool) (stage : S) (e : E) (es : List E) → all keeps stage (e ∷ es) ≡ all keeps (after keeps e stage) es) where
  one-more : (keeps : Bool) (stage : S) (events : List E) (e : E) → all keeps stage (events ++ e ∷ []) ≡ after keeps e (all keeps stage events)
  one-more keeps stage [] e = more keeps stage e [] ∙ none keeps (after keeps e stage) ∙ ap (after keeps e) (sym (none keeps stage))
  one-more keeps stage (d ∷ es) e =
      more keeps stage d (es ++ e ∷ []) ∙ one-more keeps (after keeps d stage) es e ∙ ap (after keeps e) (sym (more keeps stage d es))

  pub hears_on : (first : S) → HearsOn after all first
  hears_on first keeps had from now next known stage new e same heard reported acted is none_yet =
      let so : (events : List E) × (now ≡ Some events) × (all keeps first events ≡ stage) = heard none_yet in
      let end : after keeps e stage ≡ new = grind arith in
      (so.0 ++ e ∷ [], rw (acted, reported, so.1) refl, rw (one-more keeps first so.0 e, so.2) end)
