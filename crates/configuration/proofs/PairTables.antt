-- A table by two nodes' ids, with one number written.
use Rattle.std.proofs.Common.{◌≡◌, refl, zero, suc, replicate, ap, ℕ, ◌+◌, ◌*◌, ◌<◌, ◌≤◌, ◌⊎◌, inl, inr, arith, length, slice_set, slice_index_or}
use Rattle.std.proofs.Math.Nat.{mul-le-mul_right}
use Rattle.std.proofs.lemmas.Grind.{common_steps}
use Rattle.run_model.specs.World.{at_pair}
use Rattle.configuration.specs.PairTable.{PairTableView, place_of, value_at}

-- rows of n places each: a later row begins at or after the end of an earlier one
later-row : (n i u : ℕ) → i < u → i * n + n ≤ u * n
later-row n i u less =
    let more : i + 1 ≤ u = omega arith in
    omega (arith, mul-le-mul_right {m = i + 1} {n = u} n more)

-- two pairs with one place are the same pair
pub one-place : (n i j u v : ℕ) → j < n → v < n → place_of n i j ≡ place_of n u v → (i ≡ u) × (j ≡ v)
one-place n i j u v jn vn e =
    let order : (i ≡ u) ⊎ ((i < u) ⊎ (u < i)) = grind arith in
    elim order [
      | inl same ↦ (same, omega (arith, e, ap (λ k. k * n) same))
      | inr (inl less) ↦ absurd (omega (arith, e, later-row n i u less))
      | inr (inr more) ↦ absurd (omega (arith, e, later-row n u i more))
    ]

-- the place of a pair of nodes is one of the n * n
pub place-in : (n u v : ℕ) → u < n → v < n → place_of n u v < n * n
place-in n u v un vn = omega (arith, later-row n u n un)

-- after writing the number of one pair, every other pair keeps its own
pub value-set : (t : PairTableView) (u v p x i j : ℕ) → v < t.nodes → j < t.nodes → p ≡ place_of t.nodes u v → p < length t.values
    → value_at (record t { values = slice_set t.values p x }) i j ≡ at_pair (value_at t) u v x i j
value-set t u v p x i j vn jn place there =
    let apart : place_of t.nodes i j ≡ place_of t.nodes u v → (i ≡ u) × (j ≡ v) = one-place t.nodes i j u v jn vn in
    grind (arith, common_steps, apart, place, there)

-- 0 stands everywhere
pub zero-there : (n i : ℕ) → ◌≡◌ {A = ℕ} (slice_index_or (replicate n 0) i 0) 0
zero-there zero i = refl
zero-there (suc n) zero = refl
zero-there (suc n) (suc i) = zero-there n i
