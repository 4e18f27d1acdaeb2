-- The members of a filtered list, and of a list with some property.
use Rattle.std.proofs.Common.{◌≡◌, ℕ, inl, inr, Bool, true, ◌==◌, List, [], ◌∷◌, arith}
use Rattle.std.specs.List.{filter, list_any}
use Rattle.std.proofs.lemmas.Bool.{cases_Bool, false≢true}
use Rattle.std.proofs.lemmas.Bool.Decides.{nat_tests}

-- a member of a filtered list is in the list, and passes
pub passes-filter : (p : ℕ → Bool) (t : ℕ) (xs : List ℕ) → list_any (λ u. u == t) (filter p xs) ≡ true → (p t ≡ true) × (list_any (λ u. u == t) xs ≡ true)
passes-filter p t [] h = absurd (false≢true h)
passes-filter p t (x ∷ xs) h = grind (arith, nat_tests, passes-filter p t xs)

-- if a test passes somewhere, some member passes
pub passes-somewhere : (p : ℕ → Bool) (xs : List ℕ) → list_any p xs ≡ true → (t : ℕ) × (p t ≡ true) × (list_any (λ u. u == t) xs ≡ true)
passes-somewhere p [] h = absurd (false≢true h)
passes-somewhere p (x ∷ xs) h = elim (cases_Bool (p x)) [
  | inl e ↦ (x, e, grind (arith, nat_tests))
  | inr n ↦ (let r = passes-somewhere p xs (grind arith) in (r.0, r.1, grind (arith, nat_tests)))
]

-- and conversely
pub somewhere-passes : (p : ℕ → Bool) (t : ℕ) (xs : List ℕ) → p t ≡ true → list_any (λ u. u == t) xs ≡ true → list_any p xs ≡ true
somewhere-passes p t [] e h = absurd (false≢true h)
somewhere-passes p t (x ∷ xs) e h = grind (arith, nat_tests, somewhere-passes p t xs e)
