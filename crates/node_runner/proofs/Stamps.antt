-- Lists of stamps that grow at their ends.
use Rattle.std.proofs.Common.{◌≡◌, ℕ, zero, suc, ◌+◌, ◌<◌, ◌≤◌, List, [], ◌∷◌, ◌++◌, drop, length, ap, refl, arith, length-append}
use Rattle.std.proofs.lemmas.Grind.{common_steps}
use mathlib.Core.List.{IsPrefix}
use Rattle.weaving.specs.declared.journal.Stamped.{Stamped}
use Rattle.weaving.specs.Matched.{AreAbove, stamps}
use Rattle.node_runner.specs.Stamps.{given_back, last_place}

-- one more on both sides
pub above-push : (xs ys : List ℕ) (x y : ℕ) → AreAbove xs ys → length xs ≡ length ys → y < x → AreAbove (xs ++ x ∷ []) (ys ++ y ∷ [])
above-push [] [] x y all same later = (later, tt)
above-push [] (b ∷ ys) x y all same later = absurd (omega (arith, same))
above-push (a ∷ xs) [] x y all same later = absurd (omega (arith, same))
above-push (a ∷ xs) (b ∷ ys) x y all same later = (all.0, above-push xs ys x y all.1 (omega (arith, same)) later)

-- what follows the second list does not matter
pub above-longer : (xs ys zs : List ℕ) → AreAbove xs ys → AreAbove xs (ys ++ zs)
above-longer [] ys zs all = tt
above-longer (x ∷ xs) [] zs all = absurd all
above-longer (x ∷ xs) (y ∷ ys) zs all = (all.0, above-longer xs ys zs all.1)

-- the stamps of one more
pub stamps-push : (xs : List Stamped) (x : Stamped) → stamps (xs ++ x ∷ []) ≡ stamps xs ++ x.stamp ∷ []
stamps-push [] x = refl
stamps-push (y ∷ xs) x = ap (λ ys. y.stamp ∷ ys) (stamps-push xs x)

-- there are as many stamps as items
pub length-stamps : (xs : List Stamped) → length (stamps xs) ≡ length xs
length-stamps [] = refl
length-stamps (x ∷ xs) = ap suc (length-stamps xs)

-- a drop within a list that grows
pub drop-push : (n : ℕ) (xs : List ℕ) (x : ℕ) → n ≤ length xs → drop n (xs ++ x ∷ []) ≡ drop n xs ++ x ∷ []
drop-push zero xs x le = refl
drop-push (suc n) [] x le = absurd (omega (arith, le))
drop-push (suc n) (y ∷ xs) x le = drop-push n xs x (omega (arith, le))

-- a drop beyond a list leaves nothing
pub drop-past : (n : ℕ) (xs : List ℕ) → length xs ≤ n → drop n xs ≡ []
drop-past zero [] le = refl
drop-past zero (x ∷ xs) le = absurd (omega (arith, le))
drop-past (suc n) [] le = refl
drop-past (suc n) (x ∷ xs) le = drop-past n xs (omega (arith, le))

-- one more take gives its place back
pub given-back-more : (takes : List Stamped) (t : Stamped) → t.stamp ≤ last_place → given_back (takes ++ t ∷ []) ≡ given_back takes ++ t.stamp ∷ []
given-back-more [] t le = grind (arith, common_steps)
given-back-more (x ∷ takes) t le = let later = given-back-more takes t le in grind (arith, common_steps)

-- or keeps it, when the clock is at its end
pub given-back-same : (takes : List Stamped) (t : Stamped) → last_place < t.stamp → given_back (takes ++ t ∷ []) ≡ given_back takes
given-back-same [] t le = grind (arith, common_steps)
given-back-same (x ∷ takes) t le = let later = given-back-same takes t le in grind (arith, common_steps)

-- a prefix of a list without its first item is no longer than the rest
pub one-fewer : (known : List Stamped) (came : Stamped) (later : List Stamped) → IsPrefix known (came ∷ later) → length known ≤ length later + 1
one-fewer known came later begins = let n = length-append known begins.0 in let m = ap length begins.1 in omega arith
