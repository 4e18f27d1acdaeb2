-- Ascending lists: what is on them, and what their filters are.
use Rattle.std.proofs.Common.{◌≡◌, ◌≢◌, ℕ, ◌+◌, ◌<◌, ◌≤◌, ◌==◌, ◌&&◌, ◌||◌, zero, suc, Bool, true, false, List, [], ◌∷◌, ◌++◌, Some, None, nat_lt, nat_le, refl, sym, ◌∙◌, ap, subst, arith, inl, inr, ◌⊎◌, drop, IsTrue, add-one}
use Rattle.std.specs.Prelude.{filter, unwrap_or, slice_get, slice_index}
use Rattle.std.specs.List.{range_with_len, All}
use Rattle.std.specs.List.Sorted.{IsStrictlyIncreasing}
use Rattle.std.proofs.lemmas.Bool.{cases_Bool, cases_eq}
use Rattle.std.proofs.lemmas.Bool.Decides.{nat_tests}
use Rattle.std.proofs.lemmas.List.Elements.{All-nil, All-head, All-tail, All-weaker}
use Rattle.euler_ring.specs.Cycle.{is_on, lowest, highest, above, below, next_after, source_for}
use Rattle.euler_ring.proofs.Ranges.{filter_range}

-- each is above the one before, and the first is `low` or more
abbrev pub IsFrom : ℕ → List ℕ → Type 0
IsFrom low [] = Unit {0}
IsFrom low (x ∷ xs) = (low ≤ x) × IsFrom (x + 1) xs

after_first : (x : ℕ) (xs : List ℕ) → IsStrictlyIncreasing (x ∷ xs) → IsFrom (x + 1) xs
after_first x [] h = tt
after_first x (y ∷ ys) h =
    let one : x < y = h 0 (omega arith) in
    (omega (arith, one), after_first y ys (λ k l. let e : suc k + 1 ≡ suc (k + 1) = omega arith in subst (λ j. slice_index (y ∷ ys) k < slice_index (x ∷ y ∷ ys) j) e (h (suc k) (omega (arith, l)))))

pub from_increasing : (xs : List ℕ) → IsStrictlyIncreasing xs → IsFrom 0 xs
from_increasing [] h = tt
from_increasing (x ∷ xs) h = (omega arith, after_first x xs h)

pub from-less : (low more : ℕ) (xs : List ℕ) → low ≤ more → IsFrom more xs → IsFrom low xs
from-less low more [] l h = tt
from-less low more (x ∷ xs) l h = (omega (arith, l, h.0), h.1)

pub from-filter : (p : ℕ → Bool) (low : ℕ) (xs : List ℕ) → IsFrom low xs → IsFrom low (filter p xs)
from-filter p low [] h = tt
from-filter p low (x ∷ xs) h =
    let rest = from-filter p (x + 1) xs h.1 in
    elim (cases_Bool (p x)) [
      | inl passed ↦ rw passed (h.0, rest)
      | inr failed ↦ rw failed (from-less low (x + 1) (filter p xs) (omega (arith, h.0)) rest)
    ]

pub from-range : (a n : ℕ) → IsFrom a (range_with_len a n)
from-range a zero = tt
from-range a (suc n) = (omega arith, from-range (a + 1) n)

-- ---- what is on a list

pub on-filter : (p : ℕ → Bool) (xs : List ℕ) (w : ℕ) → is_on (filter p xs) w ≡ (is_on xs w && p w)
on-filter p [] w = refl
on-filter p (x ∷ xs) w =
    let rest = on-filter p xs w in
    elim (cases_eq x w) [
      | inl e ↦ (elim (cases_Bool (p x)) [
        | inl passed ↦ (let same : p w ≡ true = ap p (sym e) ∙ passed in grind (arith, nat_tests))
        | inr failed ↦ (let same : p w ≡ false = ap p (sym e) ∙ failed in grind (arith, nat_tests))
      ])
      | inr ne ↦ (elim (cases_Bool (p x)) [
        | inl passed ↦ grind (arith, nat_tests)
        | inr failed ↦ grind (arith, nat_tests)
      ])
    ]

pub on-range : (a n w : ℕ) → is_on (range_with_len a n) w ≡ (nat_le a w && nat_lt w (a + n))
on-range a zero w = grind (arith, nat_tests)
on-range a (suc n) w = let rest = on-range (a + 1) n w in grind (arith, nat_tests)

pub on-kept : (p : ℕ → Bool) (n w : ℕ) → is_on (filter p (range_with_len 0 n)) w ≡ (nat_lt w n && p w)
on-kept p n w = let kept = on-filter p (range_with_len 0 n) w in let all = on-range 0 n w in grind (arith, nat_tests)

pub on-push : (xs : List ℕ) (x w : ℕ) → is_on (xs ++ x ∷ []) w ≡ (is_on xs w || x == w)
on-push [] x w = grind (arith, nat_tests)
on-push (y ∷ ys) x w = let rest = on-push ys x w in grind (arith, nat_tests)

-- what is below the first is not on it
pub not_on : (low : ℕ) (xs : List ℕ) (w : ℕ) → IsFrom low xs → w < low → is_on xs w ≡ false
not_on low [] w h l = refl
not_on low (x ∷ xs) w h l =
    let rest = not_on (x + 1) xs w h.1 (omega (arith, h.0)) in
    let ne : x ≢ w = omega (arith, h.0) in
    grind (arith, nat_tests)

pub lowest_on : (xs : List ℕ) (t : ℕ) → lowest xs ≡ Some t → is_on xs t ≡ true
lowest_on [] t e = absurd (grind arith)
lowest_on (x ∷ xs) t e = grind (arith, nat_tests)

-- the lowest or the highest of a list that is not empty
pub some_lowest : (xs : List ℕ) (d : ℕ) → is_on xs (unwrap_or (lowest xs) d) ≡ true ⊎ (xs ≡ [])
some_lowest [] d = inr refl
some_lowest (x ∷ xs) d = inl (grind (arith, nat_tests))

pub some_highest : (xs : List ℕ) (d : ℕ) → is_on xs (unwrap_or (highest xs) d) ≡ true ⊎ (xs ≡ [])
some_highest [] d = inr refl
some_highest (x ∷ xs) d = elim (some_highest xs x) [
  | inl on ↦ inl (grind (arith, nat_tests))
  | inr none ↦ inl (rw none (grind (arith, nat_tests)))
]

-- ---- next and source are on the list

from_both : (a b : Bool) → (a && b) ≡ true → a ≡ true
from_both true b e = refl
from_both false b e = absurd (grind arith)

some_on : (ts : List ℕ) (t : ℕ) → IsTrue (is_on ts t) → ts ≢ []
some_on [] t on = absurd (grind arith)
some_on (x ∷ xs) t on = λ e. cc

pub next_on : (ts : List ℕ) (t : ℕ) → IsTrue (is_on ts t) → IsTrue (is_on ts (next_after ts t))
next_on ts t on = elim (some_lowest (above t ts) (unwrap_or (lowest ts) t)) [
  | inl found ↦ from_both _ _ (sym (on-filter (nat_lt t) ts (next_after ts t)) ∙ found)
  | inr none ↦ (elim (some_lowest ts t) [ inl found ↦ rw none found | inr empty ↦ absurd (some_on ts t on empty) ])
]

pub source_on : (ts : List ℕ) (w : ℕ) → IsTrue (is_on ts w) → IsTrue (is_on ts (source_for ts w))
source_on ts w on = elim (some_highest (below w ts) (unwrap_or (highest ts) w)) [
  | inl found ↦ from_both _ _ (sym (on-filter (λ u. nat_lt u w) ts (source_for ts w)) ∙ found)
  | inr none ↦ (elim (some_highest ts w) [ inl found ↦ rw none found | inr empty ↦ absurd (some_on ts w on empty) ])
]

-- ---- the list of what is on it

-- an ascending list below a limit is what is on it, in the order of ids
pub listed : (a n : ℕ) (ts : List ℕ) → IsFrom a ts → All (λ t. t < a + n) ts → filter (is_on ts) (range_with_len a n) ≡ ts
listed a zero [] h l = refl
listed a zero (t ∷ ts) h l = absurd (omega (arith, h.0, All-head (λ t. t < a + 0) t ts l))
listed a (suc n) [] h l = listed (a + 1) n [] tt (All-nil (λ t. t < a + 1 + n))
listed a (suc n) (t ∷ ts) h l = elim (cases_eq t a) [
  | inl e ↦ (
      let head : is_on (t ∷ ts) a ≡ true = grind (arith, nat_tests) in
      let same = filter_range (is_on (t ∷ ts)) (is_on ts) (a + 1) n (λ i more less. let ne : t ≢ i = omega (arith, e, more) in grind (arith, nat_tests)) in
      let rest = listed (a + 1) n ts (subst (λ x. IsFrom (x + 1) ts) e h.1) (All-weaker (λ x. x < a + suc n) (λ x. x < a + 1 + n) (λ x k. omega (arith, k)) ts (All-tail (λ x. x < a + suc n) t ts l)) in
      rw (head, same, rest, e) refl)
  | inr ne ↦ (
      let more : a < t = omega (arith, h.0, ne) in
      let head = not_on t (t ∷ ts) a (omega arith, h.1) more in
      let rest = listed (a + 1) n (t ∷ ts) (omega (arith, more), h.1) (All-weaker (λ x. x < a + suc n) (λ x. x < a + 1 + n) (λ x k. omega (arith, k)) (t ∷ ts) l) in
      rw (head, rest) refl)
]

-- those above the first are the rest
pub above_all : (t : ℕ) (ts : List ℕ) → IsFrom (t + 1) ts → above t ts ≡ ts
above_all t [] h = refl
above_all t (x ∷ xs) h =
    let rest = above_all t xs (from-less (t + 1) (x + 1) xs (omega (arith, h.0)) h.1) in
    let more : t < x = omega (arith, h.0) in
    grind (arith, nat_tests)

pub above_first : (low t : ℕ) (ts : List ℕ) → IsFrom low (t ∷ ts) → above t (t ∷ ts) ≡ ts
above_first low t ts h = let rest = above_all t ts h.1 in grind (arith, nat_tests)

pub lowest-drop : (i : ℕ) (ts : List ℕ) → lowest (drop i ts) ≡ slice_get ts i
lowest-drop zero [] = refl
lowest-drop (suc i) [] = refl
lowest-drop zero (t ∷ ts) = refl
lowest-drop (suc i) (t ∷ ts) = lowest-drop i ts

pub drop-one : (i : ℕ) (ts : List ℕ) → drop 1 (drop i ts) ≡ drop (i + 1) ts
drop-one i ts = rw add-one (go i ts) where
  go : (i : ℕ) (ts : List ℕ) → drop 1 (drop i ts) ≡ drop (suc i) ts
  go zero [] = refl
  go (suc i) [] = refl
  go zero (t ∷ ts) = refl
  go (suc i) (t ∷ ts) = go i ts

pub item_on : (i : ℕ) (ts : List ℕ) (t : ℕ) → slice_get ts i ≡ Some t → is_on ts t ≡ true
item_on i [] t e = absurd (grind arith)
item_on zero (x ∷ xs) t e = lowest_on (x ∷ xs) t e
item_on (suc i) (x ∷ xs) t e = let rest = item_on i xs t e in grind (arith, nat_tests)

pub lowest_none : (ts : List ℕ) → lowest ts ≡ None → ts ≡ []
lowest_none [] e = refl
lowest_none (t ∷ ts) e = absurd (grind arith)
