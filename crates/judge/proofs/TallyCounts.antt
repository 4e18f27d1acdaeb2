-- How many tallies are not renewed, when one is written.
use Rattle.std.proofs.Common.{◌≡◌, ℕ, ◌+◌, ◌-◌, ◌<◌, ◌≤◌, ◌==◌, inl, inr, true, zero, suc, List, [], ◌∷◌, length, replicate, slice_set, slice_index_or, refl, ap, subst, arith}
use Rattle.std.proofs.lemmas.List.{length-set}
use Rattle.configuration.specs.PairTable.{value_at}
use Rattle.std.proofs.lemmas.Grind.{common_steps}
use Rattle.judge.specs.declared.tallies.Tally.{Tally}
use Rattle.judge.specs.Tallies.{TalliesView, IsTallied, no_tally, tally_of, missing, unrenewed_in}

pub none-unrenewed : (n : ℕ) → unrenewed_in (replicate n no_tally) ≡ 0
none-unrenewed zero = refl
none-unrenewed (suc n) = omega (arith, none-unrenewed n)

-- fresh tallies lack nothing at any place
pub none-there : (n i : ℕ) → slice_index_or (replicate n no_tally) i no_tally ≡ no_tally
none-there zero i = refl
none-there (suc n) zero = refl
none-there (suc n) (suc i) = none-there n i

pub few-unrenewed : (ts : List Tally) → unrenewed_in ts ≤ length ts
few-unrenewed [] = omega arith
few-unrenewed (t ∷ ts) = let h = few-unrenewed ts in grind (arith, common_steps, h)

pub one-missing : (ts : List Tally) (i : ℕ) (d : Tally) → i < length ts → missing (slice_index_or ts i d) ≤ unrenewed_in ts
one-missing [] i d l = absurd (omega (arith, l))
one-missing (t ∷ ts) zero d l = omega arith
one-missing (t ∷ ts) (suc i) d l = omega (arith, one-missing ts i d (omega (arith, l)))

pub unrenewed-set : (ts : List Tally) (i : ℕ) (new d : Tally) → i < length ts
    → unrenewed_in (slice_set ts i new) + missing (slice_index_or ts i d) ≡ unrenewed_in ts + missing new
unrenewed-set [] i new d l = absurd (omega (arith, l))
unrenewed-set (t ∷ ts) zero new d l = omega arith
unrenewed-set (t ∷ ts) (suc i) new d l = omega (arith, unrenewed-set ts i new d (omega (arith, l)))

-- none is missing exactly if each link is renewed
none-missing : (ts : List Tally) (i : ℕ) → unrenewed_in ts ≡ 0 → (slice_index_or ts i no_tally).renewed ≡ true
none-missing [] i none = refl
none-missing (t ∷ ts) zero none = let h : missing t ≡ 0 = omega (arith, none) in grind (arith, common_steps)
none-missing (t ∷ ts) (suc i) none = none-missing ts i (omega (arith, none))

all-renewed : (ts : List Tally) → ((i : ℕ) → i < length ts → (slice_index_or ts i no_tally).renewed ≡ true) → unrenewed_in ts ≡ 0
all-renewed [] all = refl
all-renewed (t ∷ ts) all =
    let h : t.renewed ≡ true = all 0 (omega arith) in
    let rest = all-renewed ts (λ i l. all (suc i) (omega (arith, l))) in
    grind (arith, common_steps, h, rest)

abbrev pub AreRenewed : TalliesView → Type 0
AreRenewed t = (u v : ℕ) → u < t.table.nodes → v < t.table.nodes → (tally_of t u v).renewed ≡ true

pub zero-is_renewed : (t : TalliesView) → unrenewed_in t.places ≡ 0 → AreRenewed t
zero-is_renewed t none u v un vn = none-missing t.places (value_at t.table u v) none

pub renewed-is_zero : (t : TalliesView) (n : ℕ) → IsTallied t.table t.places n → AreRenewed t → unrenewed_in t.places ≡ 0
renewed-is_zero t n ok all = all-renewed t.places (λ i l. elim (ok.own i) [
  | inl (u, v, un, vn, here) ↦ subst (λ k. (slice_index_or t.places k no_tally).renewed ≡ true) here (all u v un vn)
  | inr renewed ↦ renewed
])

missing-few : (t : Tally) → missing t ≤ 1
missing-few t = grind (arith, common_steps)

-- writing one keeps the number in range and right
module _ (i n : ℕ) (ts : List Tally) (before : Tally) (few : n ≡ unrenewed_in ts) (within : i < length ts) (at_place : before ≡ slice_index_or ts i before) where
  pub before-counts : missing before ≤ n
  before-counts = let one : missing (slice_index_or ts i before) ≤ unrenewed_in ts = one-missing ts i before within in omega (arith, few, one, ap missing at_place)

  pub after-counts : (new : Tally) → n - missing before + missing new ≡ unrenewed_in (slice_set ts i new)
  after-counts new =
      let one : unrenewed_in (slice_set ts i new) + missing (slice_index_or ts i before) ≡ unrenewed_in ts + missing new = unrenewed-set ts i new before within in
      omega (arith, few, one, ap missing at_place, before-counts)

  pub sum-within : (new : Tally) → n - missing before + missing new ≤ length ts
  sum-within new =
      let a = few-unrenewed (slice_set ts i new) in
      let b = length-set ts i new in
      omega (arith, after-counts new, a, b)

pub is-zero : (n : ℕ) → (n == 0) ≡ true → n ≡ 0
is-zero n e = grind (arith, common_steps, e)

pub zero-is : (n : ℕ) → n ≡ 0 → (n == 0) ≡ true
zero-is n e = rw e refl
