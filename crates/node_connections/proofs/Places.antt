-- Places below a number.
use Rattle.std.proofs.Common.{◌≡◌, ◌⊎◌, ◌<◌, ◌≤◌, ◌+◌, ℕ, Contains, arith, []}

pub below-or-last : (w i : ℕ) → w < i + 1 → (w < i) ⊎ (w ≡ i)
below-or-last w i below = grind arith

pub apart : (w i : ℕ) → w < i → w ≡ i → ⊥
apart w i less same = omega arith

pub past : (w i : ℕ) → i + 1 ≤ w → w ≡ i → ⊥
past w i from same = omega arith

pub none-below : (w : ℕ) → w < 0 → ⊥
none-below w below = omega arith

pub none-there : (w : ℕ) → Contains {X = ℕ} [] w → ⊥
none-there w (i, below, e) = omega (arith, below)
