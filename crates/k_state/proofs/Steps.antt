-- One step of the ring: what keeps a good ring good, what it makes of a front, which values stand
-- in the ring, and when the head's stands nowhere else
use Rattle.std.proofs.Common.{◌≡◌, ◌≢◌, ℕ, ◌+◌, ◌%◌, ◌<◌, ◌≤◌, ◌⊎◌, inl, inr, suc, List, [], ◌∷◌, length, refl, sym, ◌∙◌, ap, subst, arith}
use Rattle.std.specs.List.{AllByRecursion}
use Rattle.std.proofs.Math.Nat.{mod-lt, mod-add-mod, mod-eq_of_lt}
use Rattle.k_state.specs.Ring.{Change, Copied, Written, Removed, Further, HeadMove, Moved, Dropped, Step, Stays, Moves, Changes, last_of, but_last, head_of, tail_of, IsRing, IsGood, IsFresh, IsFrontThen, HasFront}
use Rattle.k_state.proofs.Front.{All-change, All-but_last, All-weaker, Front-all_right, Front-change, Front-each, Front-last, head-change}
use Rattle.k_state.proofs.MissingValue.{In, steps_apart}

-- ---- a good ring stays good

good-all : (q x : ℕ) (xs : List ℕ) → IsGood q (x ∷ xs) → last_of x xs ≡ x → AllByRecursion (λ y. (y + 1) % q ≡ (x + 1) % q) (x ∷ xs)
good-all q x xs g e = elim (Front-last (λ y. y ≡ x) (λ y. (y + 1) % q ≡ x) x xs g) [
  | inl ps ↦ All-weaker (λ y. y ≡ x) (λ y. (y + 1) % q ≡ (x + 1) % q) (λ y i. ap (λ z. (z + 1) % q) i) (x ∷ xs) ps
  | inr h ↦ All-weaker (λ y. (y ≡ x) ⊎ ((y + 1) % q ≡ x)) (λ y. (y + 1) % q ≡ (x + 1) % q)
      (λ y i. elim i [ inl j ↦ ap (λ z. (z + 1) % q) j | inr j ↦ j ∙ sym (ap (λ z. (z + 1) % q) (sym e) ∙ h) ]) (x ∷ xs) (Front-each (λ y. y ≡ x) (λ y. (y + 1) % q ≡ x) (x ∷ xs) g)
]

good-from_all : (q x : ℕ) (xs : List ℕ) → AllByRecursion (λ y. (y + 1) % q ≡ (x + 1) % q) xs → IsGood q ((x + 1) % q ∷ xs)
good-from_all q x xs h = inl (refl, Front-all_right (λ y. y ≡ (x + 1) % q) (λ y. (y + 1) % q ≡ (x + 1) % q) xs h)

good-move : (q : ℕ) {xs ys : List ℕ} → HeadMove q xs ys → IsGood q xs → IsGood q ys
good-move q (Moved {x = x} {xs = xs} e) g = good-from_all q x xs (good-all q x xs g e).1
good-move q (Dropped {x = x} {y = y} {ys = ys} e) g =
    let h = good-all q x (y ∷ ys) g e in
    good-from_all q x (but_last y ys) (All-but_last (λ z. (z + 1) % q ≡ (x + 1) % q) y ys h.1.0 h.1.1)

good-change : (q : ℕ) {xs ys : List ℕ} → Change xs ys → IsGood q xs → IsGood q ys
good-change q {xs} {ys} c g = subst (λ h. IsFrontThen (λ x. x ≡ h) (λ x. (x + 1) % q ≡ h) ys) (sym (head-change c)) (Front-change (λ x. x ≡ head_of xs) (λ x. (x + 1) % q ≡ head_of xs) c g)

pub good-step : (q : ℕ) {n : ℕ} {xs ys : List ℕ} → Step q n xs ys → IsGood q xs → IsGood q ys
good-step q Stays g = g
good-step q (Moves m) g = good-move q m g
good-step q (Changes c l) g = good-step q l (good-change q c g)

-- ---- items that are a, in front

-- if the last item equals the head, all items do
clear-all : (a x : ℕ) (xs : List ℕ) → x ≡ a → IsFrontThen (λ y. y ≡ a) (λ y. y ≢ a) (x ∷ xs) → last_of x xs ≡ x → AllByRecursion (λ y. y ≡ a) (x ∷ xs)
clear-all a x xs i f e = elim (Front-last (λ y. y ≡ a) (λ y. y ≢ a) x xs f) [ inl ps ↦ ps | inr ne ↦ absurd (ne (e ∙ i)) ]

clear-good : (q a x : ℕ) (xs : List ℕ) → x ≡ a → AllByRecursion (λ y. y ≡ a) xs → IsGood q ((x + 1) % q ∷ xs)
clear-good q a x xs i ps = good-from_all q x xs (All-weaker (λ y. y ≡ a) (λ y. (y + 1) % q ≡ (x + 1) % q) (λ y j. ap (λ z. (z + 1) % q) (j ∙ sym i)) xs ps)

front-move : (q a : ℕ) {xs ys : List ℕ} → HeadMove q xs ys → HasFront a xs → IsGood q ys × AllByRecursion (λ y. y ≡ a) (tail_of ys)
front-move q a (Moved {x = x} {xs = xs} e) h = let w = clear-all a x xs h.0 h.1 e in (clear-good q a x xs h.0 w.1, w.1)
front-move q a (Dropped {x = x} {y = y} {ys = ys} e) h =
    let w = clear-all a x (y ∷ ys) h.0 h.1 e in
    let rest = All-but_last (λ z. z ≡ a) y ys w.1.0 w.1.1 in
    (clear-good q a x (but_last y ys) h.0 rest, rest)

pub front-step : (q a : ℕ) {n : ℕ} {xs ys : List ℕ} → Step q n xs ys → HasFront a xs → ((n ≡ 0) × HasFront a ys) ⊎ ((n ≡ 1) × IsGood q ys × AllByRecursion (λ y. y ≡ a) (tail_of ys))
front-step q a Stays h = inl (refl, h)
front-step q a (Moves m) h = let w = front-move q a m h in inr (refl, w.0, w.1)
front-step q a (Changes c l) h = front-step q a l (head-change c ∙ h.0, Front-change (λ y. y ≡ a) (λ y. y ≢ a) c h.1)

-- ---- the values that stand in the ring, after t moves of a head that began at h

abbrev pub Known : ℕ → ℕ → List ℕ → ℕ → ℕ → Type 0
Known q h others t y = In y others ⊎ ((s : ℕ) × (s ≤ t) × (y ≡ (h + s) % q))

abbrev pub HasKnown : ℕ → ℕ → List ℕ → ℕ → List ℕ → Type 0
HasKnown q h others t ring = (head_of ring ≡ (h + t) % q) × AllByRecursion (Known q h others t) ring

known-more : (q h : ℕ) (others : List ℕ) (t : ℕ) (xs : List ℕ) → AllByRecursion (Known q h others t) xs → AllByRecursion (Known q h others (suc t)) xs
known-more q h others t xs ks = All-weaker (Known q h others t) (Known q h others (suc t)) (λ y k. elim k [ inl i ↦ inl i | inr w ↦ inr (w.0, omega (arith, w.1), w.2) ]) xs ks

next_value : (q h t x : ℕ) → x ≡ (h + t) % q → (x + 1) % q ≡ (h + suc t) % q
next_value q h t x e =
    let s : h + t + 1 ≡ h + suc t = omega arith in
    ap (λ z. (z + 1) % q) e ∙ (mod-add-mod (h + t) q 1 ∙ ap (λ z. z % q) s)

pub known-step : (q h : ℕ) (others : List ℕ) (t : ℕ) {n : ℕ} {xs ys : List ℕ} → Step q n xs ys → HasKnown q h others t xs →
    ((n ≡ 0) × HasKnown q h others t ys) ⊎ ((n ≡ 1) × HasKnown q h others (suc t) ys × AllByRecursion (Known q h others t) (tail_of ys))
known-step q h others t Stays k = inl (refl, k)
known-step q h others t (Moves (Moved {x = x} {xs = xs} e)) k =
    let v = next_value q h t x k.0 in
    inr (refl, (v, (inr (suc t, omega arith, v), known-more q h others t xs k.1.1)), k.1.1)
known-step q h others t (Moves (Dropped {x = x} {y = y} {ys = ys} e)) k =
    let v = next_value q h t x k.0 in
    let rest = All-but_last (Known q h others t) y ys k.1.1.0 k.1.1.1 in
    inr (refl, (v, (inr (suc t, omega arith, v), known-more q h others t (but_last y ys) rest)), rest)
known-step q h others t (Changes c l) k = known-step q h others t l (head-change c ∙ k.0, All-change (Known q h others t) c k.1)

pub moves-step : (q : ℕ) {n : ℕ} {xs ys : List ℕ} → Step q n xs ys → n ≤ 1
moves-step q Stays = omega arith
moves-step q (Moves m) = omega arith
moves-step q (Changes c l) = moves-step q l

-- ---- the start

All-in : (xs : List ℕ) → AllByRecursion (λ y. In y xs) xs
All-in [] = tt
All-in (x ∷ xs) = (inl refl, All-weaker (λ y. In y xs) (λ y. In y (x ∷ xs)) (λ y i. inr i) xs (All-in xs))

pub start-known : (q : ℕ) (ring : List ℕ) → IsRing q ring → HasKnown q (head_of ring) (tail_of ring) 0 ring × AllByRecursion (λ y. In y (tail_of ring)) (tail_of ring) × (length ring ≡ suc (length (tail_of ring)))
start-known q [] r = absurd (omega (arith, r.0))
start-known q (x ∷ xs) r =
    let z : x + 0 ≡ x = omega arith in
    let e : x ≡ (x + 0) % q = sym (ap (λ y. y % q) z ∙ mod-eq_of_lt r.1.0) in
    ((e, (inr (0, omega arith, e), All-weaker (λ y. In y xs) (Known q x xs 0) (λ y i. inl i) xs (All-in xs))), All-in xs, refl)

-- ---- the head's value stands nowhere else

pub fresh-from : (q h : ℕ) (others : List ℕ) (s : ℕ) (ring : List ℕ) → s < q → ¬ (In ((h + s) % q) others) → head_of ring ≡ (h + s) % q →
    AllByRecursion (λ y. In y others ⊎ ((j : ℕ) × (j < s) × (y ≡ (h + j) % q))) (tail_of ring) → IsFresh ring
fresh-from q h others s ring l out e all = All-weaker (λ y. In y others ⊎ ((j : ℕ) × (j < s) × (y ≡ (h + j) % q))) (λ y. y ≢ head_of ring)
    (λ y k i. elim k [ inl m ↦ out (subst (λ z. In z others) (i ∙ e) m) | inr w ↦ steps_apart q h w.0 s w.1 l (sym w.2 ∙ (i ∙ e)) ]) (tail_of ring) all

pub fresh-front : (ring : List ℕ) → IsFresh ring → HasFront (head_of ring) ring
fresh-front [] f = (refl, tt)
fresh-front (x ∷ xs) f = (refl, inl (refl, Front-all_right (λ y. y ≡ x) (λ y. y ≢ x) xs f))

-- ---- one step, for the layers above

below-move : (q : ℕ) {xs ys : List ℕ} → 0 < q → HeadMove q xs ys → IsRing q xs → IsRing q ys
below-move q l (Moved {x = x} e) r = (omega arith, (mod-lt (x + 1) l, r.1.1))
below-move q l (Dropped {x = x} {y = y} {ys = ys} e) r = (omega arith, (mod-lt (x + 1) l, All-but_last (λ z. z < q) y ys r.1.1.0 r.1.1.1))

some-change : {xs ys : List ℕ} → Change xs ys → 0 < length ys
some-change Copied = omega arith
some-change Written = omega arith
some-change Removed = omega arith
some-change (Further c) = omega arith

positive : (q : ℕ) (ring : List ℕ) → IsRing q ring → 0 < q
positive q [] r = absurd (omega (arith, r.0))
positive q (x ∷ xs) r = omega (arith, r.1.0)

pub below-step : (q : ℕ) {n : ℕ} {xs ys : List ℕ} → Step q n xs ys → IsRing q xs → IsRing q ys
below-step q Stays r = r
below-step q (Moves {xs = xs} m) r = below-move q (positive q xs r) m r
below-step q (Changes c l) r = below-step q l (some-change c, All-change (λ x. x < q) c r.1)

pub step-apart : (q x : ℕ) → 1 < q → x < q → (x + 1) % q ≢ x
step-apart q x l b e =
    let z : x + 0 ≡ x = omega arith in
    steps_apart q x 0 1 (omega arith) l (ap (λ y. y % q) z ∙ (mod-eq_of_lt b ∙ sym e))

front-weaker : (P Q R : ℕ → Type 0) → ((x : ℕ) → Q x → R x) → (xs : List ℕ) → IsFrontThen P Q xs → IsFrontThen P R xs
front-weaker P Q R f [] h = tt
front-weaker P Q R f (x ∷ xs) (inl (p, h)) = inl (p, front-weaker P Q R f xs h)
front-weaker P Q R f (x ∷ xs) (inr (q, h)) = inr (f x q, All-weaker Q R f xs h)

pub front-good : (q : ℕ) (ring : List ℕ) → 1 < q → IsRing q ring → IsGood q ring → HasFront (head_of ring) ring
front-good q [] l r g = (refl, tt)
front-good q (x ∷ xs) l r g = (refl, front-weaker (λ y. y ≡ x) (λ y. (y + 1) % q ≡ x) (λ y. y ≢ x) (λ y e i. step-apart q x l r.1.0 (ap (λ z. (z + 1) % q) (sym i) ∙ e)) (x ∷ xs) g)
