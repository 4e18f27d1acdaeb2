-- The ids of nodes that were added in their order.
use Rattle.std.proofs.Common.{◌≡◌, ℕ, ◌+◌, List, [], ◌∷◌, ◌++◌, map, sym, ap, ◌∙◌, arith}
use Rattle.std.specs.List.{range_with_len}
use Rattle.std.proofs.lemmas.List.{map-append, map-id}
use Rattle.std.proofs.lemmas.List.FromFn.{map-range_with_len_more}

range-more : (n : ℕ) → range_with_len 0 (n + 1) ≡ range_with_len 0 n ++ n ∷ []
range-more n =
    sym (map-id (range_with_len 0 (n + 1)))
    ∙ map-range_with_len_more (λ i. i) 0 n n (omega arith)
    ∙ ap (λ xs. xs ++ n ∷ []) (map-id (range_with_len 0 n))

-- one more, with the next id
pub ids-more : {X : Type 0} (id : X → ℕ) (new xs : List X) (x : X) (n : ℕ)
    → new ≡ xs ++ x ∷ [] → map id xs ≡ range_with_len 0 n → id x ≡ n
    → map id new ≡ range_with_len 0 (n + 1)
ids-more id new xs x n added before next =
    ap (map id) added
    ∙ map-append id xs (x ∷ [])
    ∙ ap (λ ys. ys ++ id x ∷ []) before
    ∙ ap (λ i. range_with_len 0 n ++ i ∷ []) next
    ∙ sym (range-more n)
