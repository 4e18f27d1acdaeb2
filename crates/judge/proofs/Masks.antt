-- Masks of nodes, bit by bit.
use Rattle.std.proofs.Common.{◌≡◌, ◌≢◌, ◌∙◌, sym, ap, ℕ, ◌-◌, ◌*◌, ◌/◌, ◌%◌, ◌^◌, ◌<◌, ◌≤◌, ◌⊎◌, inl, inr, Bool, true, false, not, ◌==◌, ◌&&◌, ◌||◌, nat_lt, arith, refl, subst, w64, bit_and, bit_or}
use Rattle.std.proofs.Math.Pow.{pow-lt}
use Rattle.std.proofs.Math.Nat.{div-eq_of_lt}
use Rattle.std.specs.Int.{bit_at, bit_not}
use Rattle.std.proofs.lemmas.Grind.{common_steps}
use Rattle.std.proofs.lemmas.Nat.Bits.{bit_at_ones, bit_at_mask_above, ones_shr, bit_at_clear_same, bit_at_clear_other, bit_at_set_same, bit_at_set_other, bit_at_and, bit_at-lt, bit_at-zero, same_from_bits}
use Rattle.judge.specs.Stretch.{has_bit}

bit-one : (mask v : ℕ) → bit_at mask v ≡ 1 → has_bit mask v ≡ true
bit-one mask v e = rw e refl

bit-none : (mask v : ℕ) → bit_at mask v ≡ 0 → has_bit mask v ≡ false
bit-none mask v e = rw e refl

pub all-nodes : (n v : ℕ) → n ≤ 64 → has_bit ((2 ^ 64 - 1) / 2 ^ (64 - n)) v ≡ nat_lt v n
all-nodes n v few =
    let same : 64 - (64 - n) ≡ n = omega (arith, few) in
    let mask : (2 ^ 64 - 1) / 2 ^ (64 - n) ≡ 2 ^ n - 1 = ones_shr 64 (64 - n) (omega arith) ∙ ap (λ k. 2 ^ k - 1) same in
    let cases : (v < n) ⊎ (n ≤ v) = grind arith in
    elim cases [
      | inl below ↦ let one = bit-one (2 ^ n - 1) v (bit_at_ones n v below) in let less : nat_lt v n ≡ true = grind (arith, below) in rw mask (one ∙ sym less)
      | inr above ↦ let none = bit-none (2 ^ n - 1) v (bit_at_mask_above 0 n v above) in let more : nat_lt v n ≡ false = grind (arith, above) in rw mask (none ∙ sym more)
    ]

-- a number below a power of two has no bit there or above
high-bit : (mask v : ℕ) → mask < 2 ^ 64 → 64 ≤ v → bit_at mask v ≡ 0
high-bit mask v fits l =
    let order : (64 ≡ v) ⊎ (64 < v) = grind (arith, l) in
    let below : mask < 2 ^ v = elim order [ inl same ↦ subst (λ k. mask < 2 ^ k) same fits | inr more ↦ (let p : 2 ^ 64 < 2 ^ v = pow-lt more in omega (arith, fits, p)) ] in
    rw (div-eq_of_lt {n = mask} {m = 2 ^ v} below) refl

-- clearing one bit
pub without-bit : (mask node v : ℕ) → mask < 2 ^ 64 → node < 64
    → has_bit (bit_and mask (bit_not w64 (1 * 2 ^ node % 2 ^ 64))) v ≡ (has_bit mask v && not (v == node))
without-bit mask node v fits within =
    let cases : (v ≡ node) ⊎ ((v ≢ node) × (v < 64)) ⊎ ((v ≢ node) × (64 ≤ v)) = grind arith in
    let rest = bit_not w64 (1 * 2 ^ node % 2 ^ 64) in
    elim cases [
      | inl same ↦ let clear = bit-none (bit_and mask rest) v (rw same (bit_at_clear_same w64 mask node within)) in let e : (v == node) ≡ true = grind (arith, same) in cleared clear e
      | inr (inl (other, below)) ↦
          let kept : bit_at (bit_and mask rest) v ≡ bit_at mask v = bit_at_clear_other w64 mask node within v below other in
          let e : (v == node) ≡ false = grind (arith, other) in
          kept-bit (bit_and mask rest) kept e
      | inr (inr (other, above)) ↦
          let none = high-bit mask v fits above in
          let both = bit_at_and mask rest v in
          let e : (v == node) ≡ false = grind (arith, other) in
          kept-bit (bit_and mask rest) (omega (arith, none, both)) e
    ]
  where
    cleared : {x : Bool} → x ≡ false → (v == node) ≡ true → x ≡ (has_bit mask v && not (v == node))
    cleared {x} f e = grind (arith, common_steps, f, e)

    kept-bit : (n : ℕ) → bit_at n v ≡ bit_at mask v → (v == node) ≡ false → has_bit n v ≡ (has_bit mask v && not (v == node))
    kept-bit n same e = grind (arith, common_steps, same, e)

-- setting one bit
pub with-bit : (mask node v : ℕ) → node < 64 → has_bit (bit_or mask (1 * 2 ^ node % 2 ^ 64)) v ≡ (has_bit mask v || v == node)
with-bit mask node v within =
    let cases : (v ≡ node) ⊎ (v ≢ node) = grind arith in
    let new = bit_or mask (1 * 2 ^ node % 2 ^ 64) in
    elim cases [
      | inl same ↦ let set = bit-one new v (rw same (bit_at_set_same w64 mask node within)) in grind (arith, common_steps, set, same)
      | inr other ↦ let kept : bit_at new v ≡ bit_at mask v = bit_at_set_other w64 mask node within v other in grind (arith, common_steps, kept, other)
    ]

pub no-bits : (mask : ℕ) → ((v : ℕ) → has_bit mask v ≡ false) → mask ≡ 0
no-bits mask none = same_from_bits mask 0 (λ i. let b = none i in let l = bit_at-lt mask i in let z = bit_at-zero i in grind (arith, common_steps, b, l, z))

pub zero-bits : (mask v : ℕ) → mask ≡ 0 → has_bit mask v ≡ false
zero-bits mask v e = rw e (bit-none 0 v (bit_at-zero v))
