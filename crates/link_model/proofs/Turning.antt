-- A turn of a link: its items go from the front to the back, all but the one at an index.
use Rattle.std.proofs.Common.{◌≡◌, ◌≢◌, ℕ, zero, suc, ◌+◌, ◌<◌, List, [], ◌∷◌, ◌++◌, length, take, drop, remove, slice_get, Some, refl, ap, arith, add-one, append_assoc}
use Rattle.std.proofs.lemmas.Grind.{common_steps}

module _ {X : Type 0} where
  -- k items of xs went, and all of these but the one at i are back
  abbrev pub turned : List X → ℕ → ℕ → List X
  turned xs i k = drop k xs ++ remove (take k xs) i

  goes : (xs ys : List X) (k : ℕ) (x : X) → k < length xs → slice_get (drop k xs ++ ys) 0 ≡ Some x
      → drop k xs ≡ x ∷ drop (suc k) xs
  goes [] ys k x inside first = grind arith
  goes (y ∷ xs) ys zero x inside first = grind (arith, common_steps)
  goes (y ∷ xs) ys (suc k) x inside first = goes xs ys k x (grind arith) first

  taken : (xs : List X) (k : ℕ) (x : X) → drop k xs ≡ x ∷ drop (suc k) xs → take (suc k) xs ≡ take k xs ++ x ∷ []
  taken [] k x e = grind (arith, common_steps)
  taken (y ∷ ys) zero x e = grind (arith, common_steps)
  taken (y ∷ ys) (suc k) x e = ap (λ zs. y ∷ zs) (taken ys k x e)

  comes_back : (xs : List X) (i k : ℕ) (x : X) → drop k xs ≡ x ∷ drop (suc k) xs → i ≢ k
      → remove (take (suc k) xs) i ≡ remove (take k xs) i ++ x ∷ []
  comes_back [] i k x e ne = grind (arith, common_steps)
  comes_back (y ∷ ys) zero zero x e ne = grind arith
  comes_back (y ∷ ys) (suc i) zero x e ne = grind (arith, common_steps)
  comes_back (y ∷ ys) zero (suc k) x e ne = taken ys k x e
  comes_back (y ∷ ys) (suc i) (suc k) x e ne = ap (λ zs. y ∷ zs) (comes_back ys i k x e (λ same. ne (ap suc same)))

  stays_out : (xs : List X) (k : ℕ) → remove (take (suc k) xs) k ≡ remove (take k xs) k
  stays_out [] k = grind (arith, common_steps)
  stays_out (y ∷ ys) zero = grind (arith, common_steps)
  stays_out (y ∷ ys) (suc k) = ap (λ zs. y ∷ zs) (stays_out ys k)

  pub kept : (xs : List X) (i k : ℕ) (x : X) → k < length xs → slice_get (turned xs i k) 0 ≡ Some x → i ≢ k
      → drop 1 (turned xs i k) ++ x ∷ [] ≡ turned xs i (k + 1)
  kept xs i k x inside first ne =
      let e : drop k xs ≡ x ∷ drop (suc k) xs = goes xs (remove (take k xs) i) k x inside first in
      rw (add-one, e, comes_back xs i k x e ne) (append_assoc (drop (suc k) xs) (remove (take k xs) i) (x ∷ []))

  pub lost : (xs : List X) (i k : ℕ) (x : X) → k < length xs → slice_get (turned xs i k) 0 ≡ Some x → i ≡ k
      → drop 1 (turned xs i k) ≡ turned xs i (k + 1)
  lost xs i k x inside first same =
      let e : drop k xs ≡ x ∷ drop (suc k) xs = goes xs (remove (take k xs) i) k x inside first in
      rw (add-one, same, e, stays_out xs k) refl
