-- The data of one more node.
use Rattle.std.proofs.Common.{◌≡◌, ◌∙◌, ℕ, zero, suc, ◌+◌, List, [], ◌∷◌, ◌++◌, map, refl, ap, arith}
use Rattle.std.specs.List.{range_with_len}
use Rattle.std.proofs.lemmas.List.{map-append}
use Rattle.serde_json.specs.Data.{Data}
use Rattle.serde_json.specs.View.{view}
use Rattle.serde_json.specs.declared.value.Value.{Value}

listed-from : (f : ℕ → Data) (a n : ℕ) → map f (range_with_len a (suc n)) ≡ map f (range_with_len a n) ++ f (a + n) ∷ []
listed-from f a zero = let same : a + 0 ≡ a = omega arith in rw same refl
listed-from f a (suc n) =
    let same : a + 1 + n ≡ a + suc n = omega arith in
    ap (λ ds. f a ∷ ds) (rw same at (listed-from f (a + 1) n))

-- the data of n nodes, and then of the next
pub listed-more : (f : ℕ → Data) (n : ℕ) (old new : List Value) (v : Value)
    → map view old ≡ map f (range_with_len 0 n) → new ≡ old ++ v ∷ [] → view v ≡ f n
    → map view new ≡ map f (range_with_len 0 (n + 1))
listed-more f n old new v so_far now seen =
    let zero_more : 0 + n ≡ n = omega arith in
    let one_more : n + 1 ≡ suc n = omega arith in
    let longer : map f (range_with_len 0 (suc n)) ≡ map f (range_with_len 0 n) ++ f n ∷ [] = rw zero_more at (listed-from f 0 n) in
    rw (one_more, longer, ← so_far, ← seen) (ap (λ vs. map view vs) now ∙ map-append view old (v ∷ []))
