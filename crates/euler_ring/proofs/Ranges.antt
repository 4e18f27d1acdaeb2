-- Filters of a range of ids.
use Rattle.std.proofs.Common.{◌≡◌, ℕ, ◌+◌, ◌<◌, ◌≤◌, ◌&&◌, zero, suc, Bool, true, false, List, [], ◌∷◌, Some, refl, ◌∙◌, ap, arith, inl, inr}
use Rattle.std.specs.Prelude.{filter}
use Rattle.std.specs.List.{range_with_len}
use Rattle.std.proofs.lemmas.Bool.{cases_Bool, cases_eq}
use Rattle.euler_ring.specs.Cycle.{lowest, highest}

-- tests that agree on a range keep the same
pub filter_range : (p q : ℕ → Bool) (a n : ℕ) → ((i : ℕ) → a ≤ i → i < a + n → p i ≡ q i) → filter p (range_with_len a n) ≡ filter q (range_with_len a n)
filter_range p q a zero same = refl
filter_range p q a (suc n) same =
    let head = same a (omega arith) (omega arith) in
    let rest = filter_range p q (a + 1) n (λ i l h. same i (omega arith) (omega arith)) in
    rw (head, rest) refl

pub filter_filter : (p q : ℕ → Bool) (xs : List ℕ) → filter q (filter p xs) ≡ filter (λ x. p x && q x) xs
filter_filter p q [] = refl
filter_filter p q (x ∷ xs) = elim (cases_Bool (p x)) [
  | inl passed ↦ rw (passed, filter_filter p q xs) refl
  | inr failed ↦ rw (failed, filter_filter p q xs) refl
]

pub none_passes : (p : ℕ → Bool) (a n : ℕ) → ((i : ℕ) → a ≤ i → p i ≡ false) → filter p (range_with_len a n) ≡ []
none_passes p a zero fails = refl
none_passes p a (suc n) fails =
    let head = fails a (omega arith) in
    rw (head, none_passes p (a + 1) n (λ i l. fails i (omega arith))) refl

-- the first that passes is the lowest
pub lowest_passes : (p : ℕ → Bool) (a n t : ℕ) → a ≤ t → t < a + n → p t ≡ true → ((i : ℕ) → i < t → p i ≡ false) → lowest (filter p (range_with_len a n)) ≡ Some t
lowest_passes p a zero t l h passes fails = absurd (omega (arith, l, h))
lowest_passes p a (suc n) t l h passes fails = elim (cases_eq a t) [
  | inl e ↦ (let head : p a ≡ true = ap p e ∙ passes in rw (head, e) refl)
  | inr ne ↦ (let head = fails a (omega (arith, l, ne)) in rw (head, lowest_passes p (a + 1) n t (omega (arith, l, ne)) (omega (arith, h)) passes fails) refl)
]

-- the last that passes is the highest
pub highest_passes : (p : ℕ → Bool) (a n t : ℕ) → a ≤ t → t < a + n → p t ≡ true → ((i : ℕ) → t < i → p i ≡ false) → highest (filter p (range_with_len a n)) ≡ Some t
highest_passes p a zero t l h passes fails = absurd (omega (arith, l, h))
highest_passes p a (suc n) t l h passes fails = elim (cases_eq a t) [
  | inl e ↦ (let head : p a ≡ true = ap p e ∙ passes in
      let rest = none_passes p (a + 1) n (λ i k. fails i (omega (arith, k, e))) in
      rw (head, rest, e) refl)
  | inr ne ↦ (let rest = highest_passes p (a + 1) n t (omega (arith, l, ne)) (omega (arith, h)) passes fails in
      elim (cases_Bool (p a)) [ inl passed ↦ rw (passed, rest) refl | inr failed ↦ rw (failed, rest) refl ])
]
