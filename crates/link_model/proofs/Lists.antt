-- What holds of a list to which one more is added, or of which one is taken out
use Rattle.std.proofs.Common.{ℕ, ◌≤◌, zero, suc, List, [], ◌∷◌, ◌++◌, length, remove, arith}
use Rattle.std.specs.List.{AllByRecursion}

pub All-push : {X : Type 0} (P : X → Type 0) (xs : List X) (y : X) → AllByRecursion P xs → P y → AllByRecursion P (xs ++ y ∷ [])
All-push P [] y ps p = (p, tt)
All-push P (x ∷ xs) y ps p = (ps.0, All-push P xs y ps.1 p)

pub All-remove : {X : Type 0} (P : X → Type 0) (xs : List X) (i : ℕ) → AllByRecursion P xs → AllByRecursion P (remove xs i)
All-remove P [] zero ps = tt
All-remove P [] (suc i) ps = tt
All-remove P (x ∷ xs) zero ps = ps.1
All-remove P (x ∷ xs) (suc i) ps = (ps.0, All-remove P xs i ps.1)

pub length-remove : {X : Type 0} (xs : List X) (i : ℕ) → length (remove xs i) ≤ length xs
length-remove [] zero = omega arith
length-remove [] (suc i) = omega arith
length-remove (x ∷ xs) zero = omega arith
length-remove (x ∷ xs) (suc i) = omega (arith, length-remove xs i)
