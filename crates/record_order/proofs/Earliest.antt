-- The earliest so far, once one more record is looked at.
use Rattle.std.proofs.Common.{◌≡◌, ◌∙◌, sym, subst, arith, ℕ, ◌+◌, ◌<◌, ◌≤◌, true, false, List, Option, None, Some, inl, inr, ◌⊎◌}
use Rattle.std.specs.Prelude.{nat_le}
use Rattle.std.proofs.lemmas.Bool.{cases_lt}
use Rattle.std.proofs.lemmas.Bool.Decides.{nat_tests}
use Rattle.record_order.specs.declared.ready.Step.{Step}
use Rattle.record_order.specs.Order.{ready_instant, earlier, head_of, node_of, IsEarliest}

-- what is kept on the way: the earliest of the first n, with its instant
abbrev pub IsSoFar : List ℕ → List (Option Step) → ℕ → Option (ℕ × ℕ) → Type 0
IsSoFar read heads n None = (u : ℕ) → u < n → ready_instant read (head_of heads u) ≡ None
IsSoFar read heads n (Some first) =
    (first.0 < n) × (ready_instant read (head_of heads first.0) ≡ Some first.1)
    × ((u instant : ℕ) → u < n → ready_instant read (head_of heads u) ≡ Some instant → first.1 ≤ instant)
    × ((u : ℕ) → u < first.0 → ready_instant read (head_of heads u) ≡ Some first.1 → ⊥)

below : (u n : ℕ) → u < n + 1 → (u < n) ⊎ (u ≡ n)
below u n lt = elim (cases_lt u n) [ inl so ↦ inl so | inr not_so ↦ inr (omega arith) ]

abbrev some : ℕ → Option ℕ
some n = Some n

some-is : (x y : ℕ) → some x ≡ some y → x ≡ y
some-is x y e = cc

module _ (read : List ℕ) (heads : List (Option Step)) (n : ℕ) where
  none-more : ready_instant read (head_of heads n) ≡ None → (first : Option (ℕ × ℕ)) → IsSoFar read heads n first → IsSoFar read heads (n + 1) first
  none-more is None so_far = λ u lt.
      elim (below u n lt) [
        | inl so ↦ so_far u so
        | inr same ↦ subst (λ (x : ℕ). ready_instant read (head_of heads x) ≡ None) (sym same) is
      ]
  none-more is (Some first) so_far = (
    omega (arith, so_far.0),
    so_far.1,
    (λ u instant lt e.
        elim (below u n lt) [
          | inl so ↦ so_far.2 u instant so e
          | inr same ↦
              let e2 : None ≡ some instant = sym is ∙ subst (λ (x : ℕ). ready_instant read (head_of heads x) ≡ Some instant) same e in
              absurd cc
        ]),
    so_far.3,
  )

  -- what is at most each instant so far, and n's, is at most each with n
  least-more : (now least : ℕ) → ready_instant read (head_of heads n) ≡ Some now → least ≤ now
      → ((u instant : ℕ) → u < n → ready_instant read (head_of heads u) ≡ Some instant → least ≤ instant)
      → (u instant : ℕ) → u < n + 1 → ready_instant read (head_of heads u) ≡ Some instant → least ≤ instant
  least-more now least is l before u instant lt e =
      elim (below u n lt) [
        | inl so ↦ before u instant so e
        | inr same ↦
            let e2 : some now ≡ some instant = sym is ∙ subst (λ (x : ℕ). ready_instant read (head_of heads x) ≡ Some instant) same e in
            omega (arith, some-is now instant e2, l)
      ]

  some-more : (now : ℕ) → ready_instant read (head_of heads n) ≡ Some now → (first : Option (ℕ × ℕ)) → IsSoFar read heads n first
      → IsSoFar read heads (n + 1) (earlier first n (Some now))
  some-more now is None so_far = (
    omega arith,
    is,
    least-more now now is (omega arith) (λ u instant lt e. let e2 : None ≡ some instant = sym (so_far u lt) ∙ e in absurd cc),
    (λ u lt e. let e2 : None ≡ some now = sym (so_far u lt) ∙ e in absurd cc),
  )
  some-more now is (Some first) so_far =
      elim (cases_lt now first.1) [
        | inl sooner ↦
            let not_so : nat_le first.1 now ≡ false = grind (arith, nat_tests) in
            rw not_so (
              omega arith,
              is,
              least-more now now is (omega arith) (λ u instant lt e. omega (arith, so_far.2 u instant lt e, sooner)),
              (λ u lt e. omega (arith, so_far.2 u now lt e, sooner)),
            )
        | inr later ↦
            let so : nat_le first.1 now ≡ true = grind (arith, nat_tests) in
            rw so (
              omega (arith, so_far.0),
              so_far.1,
              least-more now first.1 is (omega (arith, later)) so_far.2,
              so_far.3,
            )
      ]

  pub one-more : (first : Option (ℕ × ℕ)) (now : Option ℕ) → ready_instant read (head_of heads n) ≡ now → IsSoFar read heads n first
      → IsSoFar read heads (n + 1) (earlier first n now)
  one-more first None is so_far = none-more is first so_far
  one-more first (Some now) is so_far = some-more now is first so_far

pub so_far-is : (read : List ℕ) (heads : List (Option Step)) (n : ℕ) (first : Option (ℕ × ℕ)) → IsSoFar read heads n first → IsEarliest read heads n (node_of first)
so_far-is read heads n None h = h
so_far-is read heads n (Some first) h = (h.0, first.1, h.1, h.2, h.3)
