-- Nodes counted one by one.
use Rattle.std.proofs.Common.{◌≡◌, ◌∙◌, ap, sym, ℕ, ◌+◌, ◌≤◌, arith, Bool, true, false, List, [], ◌∷◌, refl, cond, map, count_by}
use Rattle.std.specs.List.{range_with_len}
use Rattle.std.proofs.lemmas.List.FromFn.{length-range_with_len, sum_by-map-range_with_len_more}
use Rattle.std.proofs.lemmas.List.Sums.{count_by-le-length}

same-map : (xs : List ℕ) → map (λ i. i) xs ≡ xs
same-map [] = refl
same-map (x ∷ xs) = ap (λ ys. x ∷ ys) (same-map xs)

-- one more number counts if it passes the test
count-more : (p : ℕ → Bool) (n : ℕ) → count_by p (range_with_len 0 (n + 1)) ≡ count_by p (range_with_len 0 n) + cond (p n) 1 0
count-more p n =
    ap (count_by p) (sym (same-map (range_with_len 0 (n + 1))))
    ∙ sum_by-map-range_with_len_more (λ y. cond (p y) 1 0) (λ i. i) 0 n n (omega arith)
    ∙ ap (λ xs. count_by p xs + cond (p n) 1 0) (same-map (range_with_len 0 n))

pub count-yes : (p : ℕ → Bool) (n : ℕ) → p n ≡ true → count_by p (range_with_len 0 (n + 1)) ≡ count_by p (range_with_len 0 n) + 1
count-yes p n holds = count-more p n ∙ ap (λ b. count_by p (range_with_len 0 n) + cond b 1 0) holds

pub count-no : (p : ℕ → Bool) (n : ℕ) → p n ≡ false → count_by p (range_with_len 0 (n + 1)) ≡ count_by p (range_with_len 0 n)
count-no p n fails = count-more p n ∙ ap (λ b. count_by p (range_with_len 0 n) + cond b 1 0) fails ∙ omega arith

pub count-most : (p : ℕ → Bool) (n : ℕ) {count : ℕ} → count ≡ count_by p (range_with_len 0 n) → count ≤ n
count-most p n counted = omega (arith, counted, count_by-le-length p (range_with_len 0 n), length-range_with_len 0 n)
