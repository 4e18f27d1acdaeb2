-- Deeds beside their instants, noted one after the other.
use Rattle.std.proofs.Common.{◌≡◌, ◌∙◌, ◌+◌, ◌<◌, ℕ, List, [], ◌∷◌, ◌++◌, arith, get_or, length, refl, sym, take}
use Rattle.std.specs.Prelude.{fold}
use Rattle.std.specs.List.{zip}
use Rattle.std.proofs.lemmas.List.{take_more, length-take-le}

not-empty : {Z : Type 0} (z : Z) (zs : List Z) → 0 ≡ length (z ∷ zs) → ⊥
not-empty z zs same = omega (arith, same)

module _ {X K V : Type 0} (f : X → (K × V) → X) where
  -- two lists of one length, and what comes after each
  pub zip-append : (x : X) (ks ls : List K) (vs ws : List V) → length ks ≡ length vs
      → fold f x (zip (ks ++ ls) (vs ++ ws)) ≡ fold f (fold f x (zip ks vs)) (zip ls ws)
  zip-append x [] ls [] ws same = refl
  zip-append x [] ls (v ∷ vs) ws same = absurd (not-empty v vs same)
  zip-append x (k ∷ ks) ls [] ws same = absurd (not-empty k ks (sym same))
  zip-append x (k ∷ ks) ls (v ∷ vs) ws same = zip-append (f x (k, v)) ks ls vs ws (let one = same in omega arith)

  -- one more of each
  pub zip-next : (x : X) (ks : List K) (vs : List V) (i : ℕ) (k : K) (v : V) → length ks ≡ length vs → i < length ks
      → fold f x (zip (take (i + 1) ks) (take (i + 1) vs)) ≡ f (fold f x (zip (take i ks) (take i vs))) (get_or ks i k, get_or vs i v)
  zip-next x ks vs i k v same there =
      let there-too : i < length vs = omega (arith, there, same) in
      rw (take_more ks i k there, take_more vs i v there-too)
      (zip-append x (take i ks) (get_or ks i k ∷ []) (take i vs) (get_or vs i v ∷ [])
      (length-take-le i ks (omega arith) ∙ sym (length-take-le i vs (omega arith))))
