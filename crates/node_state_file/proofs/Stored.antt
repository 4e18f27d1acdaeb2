-- The first bytes that are stored.
use Rattle.std.proofs.Common.{◌≡◌, ◌∙◌, ap, sym, arith, ℕ, min, List, length, take, inl, inr}
use Rattle.std.proofs.lemmas.Bool.{cases_lt}
use Rattle.std.proofs.lemmas.List.{take_all}

-- as many as there are, or as there is room for
pub front : (items : List ℕ) (n : ℕ) → n ≡ min (length items) 1277 → take n items ≡ take 1277 items
front items n e = elim (cases_lt 1277 (length items)) [
  | inl long ↦ ap (λ k. take k items) {x = n} {y = 1277} (omega (arith, e, long))
  | inr short ↦ take_all n items (omega (arith, e, short)) ∙ sym (take_all 1277 items (omega (arith, short)))
]
