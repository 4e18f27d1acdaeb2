-- The words of one more node.
use Rattle.std.proofs.Common.{◌≡◌, ◌∙◌, ℕ, zero, suc, ◌+◌, List, ◌++◌, map, refl, ap, arith, codes, append_assoc, append-nil, sym}
use Rattle.std.specs.List.{range_with_len}
use Rattle.network_commands.specs.Bound.{spaced}

spaced-from : (word_of : ℕ → List ℕ) (a n : ℕ) → spaced (map word_of (range_with_len a (suc n))) ≡ spaced (map word_of (range_with_len a n)) ++ (codes " " ++ word_of (a + n))
spaced-from word_of a zero = let same : a + 0 ≡ a = omega arith in rw (same, append-nil) refl
spaced-from word_of a (suc n) =
    let same : a + 1 + n ≡ a + suc n = omega arith in
    ap (λ bytes. codes " " ++ (word_of a ++ bytes)) (rw same at (spaced-from word_of (a + 1) n))
    ∙ ap (λ bytes. codes " " ++ bytes) (sym (append_assoc (word_of a) (spaced (map word_of (range_with_len (a + 1) n))) (codes " " ++ word_of (a + suc n))))

-- a start, then the words of n nodes, then the next word
pub spaced-more : (word_of : ℕ → List ℕ) (n : ℕ) (start old new : List ℕ) → old ≡ start ++ spaced (map word_of (range_with_len 0 n)) → new ≡ old ++ (codes " " ++ word_of n)
    → new ≡ start ++ spaced (map word_of (range_with_len 0 (n + 1)))
spaced-more word_of n start old new so_far now =
    let zero_more : 0 + n ≡ n = omega arith in
    let one_more : n + 1 ≡ suc n = omega arith in
    let words : spaced (map word_of (range_with_len 0 (suc n))) ≡ spaced (map word_of (range_with_len 0 n)) ++ (codes " " ++ word_of n) = rw zero_more at (spaced-from word_of 0 n) in
    rw one_more (now ∙ ap (λ bytes. bytes ++ (codes " " ++ word_of n)) so_far ∙ append_assoc start (spaced (map word_of (range_with_len 0 n))) (codes " " ++ word_of n)
    ∙ ap (λ bytes. start ++ bytes) (sym words))
