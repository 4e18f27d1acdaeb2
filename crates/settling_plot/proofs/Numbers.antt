-- What is shown of each number below another, number by number.
use Rattle.std.proofs.Common.{◌≡◌, ◌∙◌, ap, sym, refl, ℕ, zero, suc, ◌+◌, List, [], ◌∷◌, ◌++◌, append_assoc, arith}
use Rattle.std.specs.List.{flat_map, range_with_len}
use Rattle.std.proofs.lemmas.Grind.{flat_map-append}
use Rattle.std.proofs.lemmas.List.{append-nil}

-- one number more
range_more : (a n : ℕ) → range_with_len a (suc n) ≡ range_with_len a n ++ (a + n) ∷ []
range_more a zero = let e : a + 0 ≡ a = omega arith in rw e refl
range_more a (suc n) =
    let e : (a + 1) + n ≡ a + suc n = omega arith in
    ap (λ xs. a ∷ xs) (range_more (a + 1) n ∙ ap (λ k. range_with_len (a + 1) n ++ k ∷ []) e)

-- after what the first numbers show, the next one is shown
pub shown_next : {X : Type 0} (show : ℕ → List X) (n : ℕ) (start before after : List X) → before ≡ start ++ flat_map show (range_with_len 0 n)
    → after ≡ before ++ show n → after ≡ start ++ flat_map show (range_with_len 0 (n + 1))
shown_next show n start before after so_far added =
    let next : n + 1 ≡ suc n = omega arith in
    let here : 0 + n ≡ n = omega arith in
    added ∙ ap (λ xs. xs ++ show n) so_far ∙ append_assoc start (flat_map show (range_with_len 0 n)) (show n)
    ∙ ap (λ xs. start ++ (flat_map show (range_with_len 0 n) ++ xs)) (sym (append-nil (show n)))
    ∙ ap (λ xs. start ++ xs) (sym (flat_map-append show (range_with_len 0 n) (n ∷ [])))
    ∙ ap (λ k. start ++ flat_map show (range_with_len 0 n ++ k ∷ [])) (sym here)
    ∙ ap (λ xs. start ++ flat_map show xs) (sym (range_more 0 n))
    ∙ ap (λ k. start ++ flat_map show (range_with_len 0 k)) (sym next)
