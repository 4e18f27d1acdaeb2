-- Stamps that are each above the stamp at the same place of another list.
use Rattle.std.proofs.Common.{ℕ, zero, suc, ◌≤◌, List, [], ◌∷◌, drop, arith}
use Rattle.std.specs.List.{AllByRecursion}
use Rattle.weaving.specs.Matched.{AreAbove}

-- the same for what follows in both
pub above-next : (n : ℕ) (xs : List ℕ) (y : ℕ) (ys : List ℕ) → AreAbove (drop n xs) (y ∷ ys) → AreAbove (drop (suc n) xs) ys
above-next zero [] y ys h = tt
above-next zero (x ∷ xs) y ys h = h.1
above-next (suc n) [] y ys h = tt
above-next (suc n) (x ∷ xs) y ys h = above-next n xs y ys h

-- the first is not the least
pub not-least : (x : ℕ) (xs ys : List ℕ) → AreAbove (x ∷ xs) ys → AllByRecursion (λ y. x ≤ y) ys → ⊥
not-least x xs [] h all = h
not-least x xs (y ∷ ys) h all = let a = h.0 in let b = all.0 in omega arith
