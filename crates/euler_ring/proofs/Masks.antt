-- The ids of a mask, ascending: what its bits say of the list.
use Rattle.std.proofs.Common.{◌≡◌, ◌≢◌, ℕ, ◌+◌, ◌-◌, ◌*◌, ◌/◌, ◌%◌, ◌^◌, ◌<◌, ◌≤◌, ◌==◌, ◌&&◌, zero, suc, Bool, true, false, List, [], ◌∷◌, length, Some, None, nat_lt, refl, sym, ◌∙◌, ap, subst, arith, inl, inr, bit_and, bit_or, w64, add-one, drop}
use Rattle.std.specs.Prelude.{filter, count_ones, All}
use Rattle.std.specs.Int.{bit_at, bit_not, trailing_zeros, leading_zeros}
use Rattle.std.specs.Int.Count.{ones_step}
use Rattle.std.proofs.Math.Nat.{pow-suc}
use Rattle.std.proofs.Math.Pow.{pow_mono}
use Rattle.std.specs.List.{range_with_len}
use Rattle.std.proofs.lemmas.Bool.{cases_Bool, cases_eq, cases_lt}
use Rattle.std.proofs.lemmas.Bool.Decides.{nat_tests}
use Rattle.std.proofs.lemmas.Nat.{leading_top, ones-le, zero_from_ones}
use Rattle.std.proofs.lemmas.Nat.Bits.{bit_at-suc, bit_at-zero, bit_at_lowest, bit_at_and, bit_at-lt, bit_at_not, bit_at_ones, bit_at_ones_above, bit_at_above, bit_at_cat_high, bit_at_mask_inside, bit_at_mask_below, bit_at-trailing_zeros, ones_shr, ones_shl, bit_at_set_same, bit_at_set_other}
use Rattle.euler_ring.specs.Cycle.{is_on, lowest, highest, above, below}
use Rattle.euler_ring.specs.Mask.{has_id, ids_of}
use Rattle.euler_ring.proofs.Ranges.{filter_range, filter_filter, none_passes, lowest_passes, highest_passes}
use Rattle.euler_ring.proofs.Ascending.{IsFrom, from-filter, from-range, on-kept, listed, above_first, lowest_none, lowest_on}

-- ---- bits

-- the bits of half of a number are its bits, one place lower
shifted : (n a k : ℕ) → length (filter (has_id n) (range_with_len (a + 1) k)) ≡ length (filter (has_id (n / 2)) (range_with_len a k))
shifted n a zero = refl
shifted n a (suc k) =
    let head : has_id n (a + 1) ≡ has_id (n / 2) a = rw add-one (ap (λ b. b == 1) (bit_at-suc n a)) in
    let rest = shifted n (a + 1) k in
    elim (cases_Bool (has_id (n / 2) a)) [
      | inl passed ↦ rw (head, passed, rest) refl
      | inr failed ↦ rw (head, failed, rest) refl
    ]

ones_count : (k n : ℕ) → n < 2 ^ k → count_ones n ≡ length (filter (has_id n) (range_with_len 0 k))
ones_count zero n l = let e = ones-le 0 n l in omega (arith, e)
ones_count (suc k) n l =
    let half : n / 2 < 2 ^ k = omega (arith, pow-suc 2 k) in
    let rest = ones_count k (n / 2) half ∙ sym (shifted n 0 k) in
    let low = bit_at_lowest n in
    elim (cases_Bool (has_id n 0)) [
      | inl passed ↦ (let one : n % 2 ≡ 1 = grind (arith, nat_tests) in rw (passed, ones_step n, one, rest) (omega arith))
      | inr failed ↦ (let none : n % 2 ≡ 0 = grind (arith, nat_tests) in rw (failed, ones_step n, none, rest) (omega arith))
    ]

-- the greatest bit below 2 ^ (j + 1) is bit j, if the number is 2 ^ j at least
top_bit : (n j : ℕ) → 2 ^ j ≤ n → n < 2 ^ suc j → bit_at n j ≡ 1
top_bit n j l h =
    let low : n - 2 ^ j < 2 ^ j = omega (arith, pow-suc 2 j) in
    let e : n ≡ 1 * 2 ^ j + (n - 2 ^ j) = omega arith in
    let z : j - j ≡ 0 = omega arith in
    ap (λ x. bit_at x j) e ∙ bit_at_cat_high 1 j (n - 2 ^ j) j low (omega arith) ∙ ap (λ x. bit_at 1 x) z

from_bit : (n i : ℕ) → bit_at n i ≡ 0 → has_id n i ≡ false
from_bit n i e = grind (arith, nat_tests)

pub has_none : (i : ℕ) → has_id 0 i ≡ false
has_none i = from_bit 0 i (bit_at-zero i)

-- ---- the ids of a mask

pub ids_count : (ids : ℕ) → ids < 2 ^ 64 → count_ones ids ≡ length (ids_of ids)
unfolding ids_of
ids_count ids l = ones_count 64 ids l

pub ids_none : ids_of 0 ≡ []
unfolding ids_of
ids_none = none_passes (has_id 0) 0 64 (λ i l. has_none i)

pub ids_lowest : (ids : ℕ) → 0 < ids → ids < 2 ^ 64 → lowest (ids_of ids) ≡ Some (trailing_zeros w64 ids)
unfolding ids_of
ids_lowest ids some l =
    let h = bit_at-trailing_zeros w64 ids some l in
    lowest_passes (has_id ids) 0 64 (trailing_zeros w64 ids) (omega arith) h.0 (ap (λ b. b == 1) h.1) (λ i less. from_bit ids i (h.2 i less))

pub ids_highest : (ids : ℕ) → 0 < ids → ids < 2 ^ 64 → highest (ids_of ids) ≡ Some (63 - leading_zeros w64 ids)
unfolding ids_of
ids_highest ids some l =
    let h = leading_top 64 ids some l in
    let e : 63 - leading_zeros w64 ids ≡ h.0 = omega (arith, h.1) in
    rw e (highest_passes (has_id ids) 0 64 h.0 (omega arith) (omega (arith, h.1)) (ap (λ b. b == 1) (top_bit ids h.0 h.2 h.3)) (λ i more. from_bit ids i (bit_at_above ids (suc h.0) i h.3 (omega arith))))

has-and : (a b i : ℕ) → has_id (bit_and a b) i ≡ (has_id a i && has_id b i)
has-and a b i = let e = bit_at_and a b i in let x = bit_at-lt a i in let y = bit_at-lt b i in grind (arith, nat_tests)

-- a mask's ids that have a bit in another mask
ids-and : (ids mask : ℕ) (test : ℕ → Bool) → ((i : ℕ) → i < 64 → has_id mask i ≡ test i) → ids_of (bit_and ids mask) ≡ filter test (ids_of ids)
unfolding ids_of
ids-and ids mask test same =
    filter_range (has_id (bit_and ids mask)) (λ i. has_id ids i && test i) 0 64 (λ i l h. has-and ids mask i ∙ ap (λ b. has_id ids i && b) (same i h))
    ∙ sym (filter_filter (has_id ids) test (range_with_len 0 64))

above_mask : (id i : ℕ) → id < 64 → i < 64 → has_id (bit_not w64 (2 ^ (id + 1) - 1)) i ≡ nat_lt id i
above_mask id i l h =
    let small : 2 ^ (id + 1) ≤ 2 ^ 64 = pow_mono {j = 64} (omega arith) in
    let e = bit_at_not w64 (2 ^ (id + 1) - 1) i (omega arith) h in
    elim (cases_lt id i) [
      | inl more ↦ (let z = bit_at_ones_above (id + 1) i (omega arith) in grind (arith, nat_tests))
      | inr less ↦ (let z = bit_at_ones (id + 1) i (omega arith) in grind (arith, nat_tests))
    ]

below_mask : (id i : ℕ) → id < 64 → i < 64 → has_id (bit_not w64 (2 ^ 64 - 2 ^ id)) i ≡ nat_lt i id
below_mask id i l h =
    let some : 1 ≤ 2 ^ id = pow_mono {i = 0} (omega arith) in
    let e = bit_at_not w64 (2 ^ 64 - 2 ^ id) i (omega arith) h in
    elim (cases_lt i id) [
      | inl less ↦ (let z = bit_at_mask_below id 64 i less in grind (arith, nat_tests))
      | inr more ↦ (let z = bit_at_mask_inside id 64 i more h in grind (arith, nat_tests))
    ]

-- the ids above one, as the code cuts them out: `MAX >> (63 - id)` has the bits up to bit id
pub ids_above : (ids id : ℕ) → id < 64 → ids_of (bit_and ids (bit_not w64 ((2 ^ 64 - 1) / 2 ^ (63 - id)))) ≡ above id (ids_of ids)
ids_above ids id l =
    let k : 64 - (63 - id) ≡ id + 1 = omega arith in
    let e : (2 ^ 64 - 1) / 2 ^ (63 - id) ≡ 2 ^ (id + 1) - 1 = ones_shr 64 (63 - id) (omega arith) ∙ ap (λ k. 2 ^ k - 1) k in
    ids-and ids _ (nat_lt id) (λ i h. ap (λ m. has_id (bit_not w64 m) i) e ∙ above_mask id i l h)

-- and those below: `MAX << id` has the bits from bit id on
pub ids_below : (ids id : ℕ) → id < 64 → ids_of (bit_and ids (bit_not w64 ((2 ^ 64 - 1) * 2 ^ id % 2 ^ 64))) ≡ below id (ids_of ids)
ids_below ids id l =
    let e = ones_shl 64 id (omega arith) in
    ids-and ids _ (λ i. nat_lt i id) (λ i h. ap (λ m. has_id (bit_not w64 m) i) e ∙ below_mask id i l h)

-- ---- the list as a set

pub ids_from : (ids : ℕ) → IsFrom 0 (ids_of ids)
unfolding ids_of
ids_from ids = from-filter (has_id ids) 0 (range_with_len 0 64) (from-range 0 64)

pub on_ids : (ids w : ℕ) → is_on (ids_of ids) w ≡ (nat_lt w 64 && has_id ids w)
unfolding ids_of
on_ids ids w = on-kept (has_id ids) 64 w

pub on_below : (ids w : ℕ) → is_on (ids_of ids) w ≡ true → w < 64
on_below ids w on = let e = on_ids ids w in grind (arith, nat_tests)

-- the ids of a mask are an ascending list if its bits say what is on that
pub ids_are : (ids : ℕ) (ts : List ℕ) → IsFrom 0 ts → All (λ t. t < 64) ts → ((i : ℕ) → i < 64 → has_id ids i ≡ is_on ts i) → ids_of ids ≡ ts
unfolding ids_of
ids_are ids ts h l same = filter_range (has_id ids) (is_on ts) 0 64 (λ i more less. same i less) ∙ listed 0 64 ts h l

pub has-set_same : (ids id : ℕ) → id < 64 → has_id (bit_or ids (1 * 2 ^ id % 2 ^ 64)) id ≡ true
has-set_same ids id l = ap (λ b. b == 1) (bit_at_set_same w64 ids id l)

pub has-set_other : (ids id i : ℕ) → id < 64 → i ≢ id → has_id (bit_or ids (1 * 2 ^ id % 2 ^ 64)) i ≡ has_id ids i
has-set_other ids id i l ne = ap (λ b. b == 1) (bit_at_set_other w64 ids id l i ne)

-- an id is below 64, and the ids above the lowest are the rest
pub lowest_below : (ids t : ℕ) → lowest (ids_of ids) ≡ Some t → t < 64
lowest_below ids t e = on_below ids t (lowest_on (ids_of ids) t e)

above_lowest : (ts : List ℕ) (t : ℕ) → IsFrom 0 ts → lowest ts ≡ Some t → above t ts ≡ drop 1 ts
above_lowest [] t h e = refl
above_lowest (x ∷ xs) t h e = let same : x ≡ t = cc in subst (λ y. above y (x ∷ xs) ≡ xs) same (above_first 0 x xs h)

pub ids_without_lowest : (ids t : ℕ) → lowest (ids_of ids) ≡ Some t → above t (ids_of ids) ≡ drop 1 (ids_of ids)
ids_without_lowest ids t e = above_lowest (ids_of ids) t (ids_from ids) e

pub ids_no_lowest : (ids : ℕ) → lowest (ids_of ids) ≡ None → ids_of 0 ≡ drop 1 (ids_of ids)
ids_no_lowest ids e = ids_none ∙ sym (ap (λ xs. drop 1 xs) (lowest_none (ids_of ids) e))

-- only the empty mask has no ids
pub ids_empty : (ids : ℕ) → ids < 2 ^ 64 → (ids == 0) ≡ (length (ids_of ids) == 0)
ids_empty ids l =
    let count = ids_count ids l in
    elim (cases_eq ids 0) [
      | inl e ↦ (let none : length (ids_of ids) ≡ 0 = ap length (ap ids_of e ∙ ids_none) in grind (arith, nat_tests))
      | inr ne ↦ (let some : length (ids_of ids) ≢ 0 = λ z. ne (zero_from_ones ids (count ∙ z)) in grind (arith, nat_tests))
    ]
