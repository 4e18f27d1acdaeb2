-- Lists of stops in which each follows from the one before.
use Rattle.std.proofs.Common.{◌≡◌, List, [], ◌∷◌, ◌++◌, ◌⊎◌, inl, inr, refl, sym, ◌∙◌, subst}
use Rattle.topology.specs.Network.{Network}
use Rattle.euler_ring.specs.Tour.{Stop}
use Rattle.euler_ring.specs.Laws.{stop_after, GoesTo, IsStopOf, NoStopTwice}

-- p, the list and q follow one another by `next`
abbrev pub IsChain : (Stop → Stop) → Stop → List Stop → Stop → Type 0
IsChain next p [] q = next p ≡ q
IsChain next p (x ∷ xs) q = (next p ≡ x) × IsChain next x xs q

pub chain-append : (next : Stop → Stop) (p : Stop) (xs : List Stop) (x : Stop) (ys : List Stop) (q : Stop) → IsChain next p xs x → IsChain next x ys q → IsChain next p (xs ++ x ∷ ys) q
chain-append next p [] x ys q a b = (a, b)
chain-append next p (y ∷ xs) x ys q a b = (a.0, chain-append next y xs x ys q a.1 b)

pub goes_to : (net : Network) (p : Stop) (xs : List Stop) (q : Stop) → IsChain (stop_after net) p xs q → GoesTo net q (p ∷ xs)
goes_to net p [] q c = c
goes_to net p (x ∷ xs) q c = (c.0, goes_to net x xs q c.1)

-- ---- what is on a list of stops

pub in-left : (xs ys : List Stop) (s : Stop) → IsStopOf xs s → IsStopOf (xs ++ ys) s
in-left [] ys s i = absurd i
in-left (x ∷ xs) ys s (inl e) = inl e
in-left (x ∷ xs) ys s (inr i) = inr (in-left xs ys s i)

pub in-right : (xs ys : List Stop) (s : Stop) → IsStopOf ys s → IsStopOf (xs ++ ys) s
in-right [] ys s i = i
in-right (x ∷ xs) ys s i = inr (in-right xs ys s i)

pub in-either : (xs ys : List Stop) (s : Stop) → IsStopOf (xs ++ ys) s → IsStopOf xs s ⊎ IsStopOf ys s
in-either [] ys s i = inr i
in-either (x ∷ xs) ys s (inl e) = inl (inl e)
in-either (x ∷ xs) ys s (inr i) = elim (in-either xs ys s i) [ inl a ↦ inl (inr a) | inr b ↦ inr b ]

-- ---- a chain that does not come back to its beginning has no stop twice

in-before : (next : Stop → Stop) (p : Stop) (xs : List Stop) (q y : Stop) → IsChain next p xs q → IsStopOf xs y → (e : Stop) × IsStopOf (p ∷ xs) e × (next e ≡ y)
in-before next p [] q y c i = absurd i
in-before next p (x ∷ xs) q y c (inl e) = (p, inl refl, c.0 ∙ sym e)
in-before next p (x ∷ xs) q y c (inr i) = let w = in-before next x xs q y c.1 i in (w.0, inr w.1, w.2)

pub none_twice : (next : Stop → Stop) (P : Stop → Type 0) → ((a b : Stop) → P a → P b → next a ≡ next b → a ≡ b) → (p : Stop) (xs : List Stop) (q : Stop) → IsChain next p xs q →
    ((s : Stop) → IsStopOf (p ∷ xs) s → P s) → ¬ IsStopOf xs p → NoStopTwice (p ∷ xs)
none_twice next P inj p [] q c all out = (out, tt)
none_twice next P inj p (x ∷ xs) q c all out = (
  out,
  none_twice next P inj x xs q c.1 (λ s i. all s (inr i)) (λ i.
      let w = in-before next x xs q x c.1 i in
      let same : w.0 ≡ p = inj w.0 p (all w.0 (inr w.1)) (all p (inl refl)) (w.2 ∙ sym c.0) in
      out (subst (λ e. IsStopOf (x ∷ xs) e) same w.1)),
)
