-- If there are two values or more, a good ring has one boundary, and between two head moves it
-- passes every item
use Rattle.std.proofs.Common.{◌≡◌, ◌≢◌, ℕ, ◌+◌, ◌%◌, ◌<◌, ◌≤◌, ◌==◌, ◌⊎◌, inl, inr, zero, suc, List, [], ◌∷◌, length, IsTrue, true, not, refl, sym, ◌∙◌, ap, subst, arith}
use Rattle.std.specs.List.{AllByRecursion}
use Rattle.std.proofs.lemmas.Bool.{cases_eq, cases_lt, eq-eqb, eqb-true}
use Rattle.std.proofs.Math.Nat.{mod-lt}
use Rattle.k_state.specs.Machine.{root_moved}
use Rattle.k_state.specs.Ring.{IsFrontThen, IsGood, IsParallel, IsRing, Turn, Copies, Goes_on, is_privileged_at, last_of, moves_until, sees_another}
use Rattle.k_state.proofs.Front.{All-last}
use Rattle.k_state.proofs.Histories.{until-first}
use Rattle.k_state.proofs.MissingValue.{steps_apart}
use Rattle.k_state.proofs.Steps.{step-apart}

-- the first b items are a, and all after them one less
abbrev pub IsBoundary : ℕ → ℕ → ℕ → List ℕ → Type 0
IsBoundary q a zero xs = AllByRecursion (λ x. root_moved x q ≡ a) xs
IsBoundary q a (suc b) [] = ⊥
IsBoundary q a (suc b) (x ∷ xs) = (x ≡ a) × IsBoundary q a b xs

boundary-of_front : (q a : ℕ) (xs : List ℕ) → IsFrontThen (λ x. x ≡ a) (λ x. root_moved x q ≡ a) xs → (b : ℕ) × (b ≤ length xs) × IsBoundary q a b xs
boundary-of_front q a [] h = (0, omega arith, tt)
boundary-of_front q a (x ∷ xs) (inr h) = (0, omega arith, h)
boundary-of_front q a (x ∷ xs) (inl (e, h)) = let w = boundary-of_front q a xs h in (suc w.0, omega (arith, w.1), (e, w.2))

pub boundary-of_good : (q x : ℕ) (xs : List ℕ) → 1 < q → IsRing q (x ∷ xs) → IsGood q (x ∷ xs) → (b : ℕ) × (b ≤ length xs) × IsBoundary q x (suc b) (x ∷ xs)
boundary-of_good q x xs l r (inr (e, h)) = absurd (step-apart q x l r.1.0 e)
boundary-of_good q x xs l r (inl (e, h)) = let w = boundary-of_front q x xs h in (w.0, w.1, (refl, w.2))

boundary-within : (q a b : ℕ) (xs : List ℕ) → IsBoundary q a b xs → b ≤ length xs
boundary-within q a zero xs h = omega arith
boundary-within q a (suc b) [] h = absurd h
boundary-within q a (suc b) (x ∷ xs) h = omega (arith, boundary-within q a b xs h.1)

-- ---- some item is privileged

some-after : (left : ℕ) (xs : List ℕ) → (last_of left xs ≡ left) ⊎ ((i : ℕ) × (i < length xs) × (sees_another left xs i ≡ true))
some-after left [] = inl refl
some-after left (x ∷ xs) = elim (cases_eq x left) [
  | inl e ↦ elim (some-after x xs) [ inl h ↦ inl (h ∙ e) | inr w ↦ inr (suc w.0, omega (arith, w.1), w.2) ]
  | inr ne ↦ inr (0, omega arith, grind arith)
]

pub some-privileged : (ring : List ℕ) → 0 < length ring → (i : ℕ) × (i < length ring) × IsTrue (is_privileged_at ring i)
some-privileged [] l = absurd (omega arith)
some-privileged (x ∷ xs) l = elim (some-after x xs) [ inl e ↦ (0, omega arith, eq-eqb x (last_of x xs) (sym e)) | inr w ↦ (suc w.0, omega (arith, w.1), w.2) ]

-- ---- where privilege is in a good ring

module _ (q : ℕ) (l : 1 < q) where
  differs : (a x y : ℕ) → a < q → x ≡ a → root_moved y q ≡ a → y ≢ x
  differs a x y k e h i = step-apart q a l k (ap (λ z. root_moved z q) (sym e ∙ sym i) ∙ h)

  below-another : (x y : ℕ) → x < y → y < q → root_moved x q ≢ root_moved y q
  below-another x y k h e =
      let flip : (z : ℕ) → (z + 1) % q ≡ (1 + z) % q = λ z. (let c : z + 1 ≡ 1 + z = omega arith in ap (λ n. n % q) c) in
      steps_apart q 1 x y k h (sym (flip x) ∙ (e ∙ flip y))

  one-less : (a x y : ℕ) → x < q → y < q → root_moved x q ≡ a → root_moved y q ≡ a → x ≡ y
  one-less a x y k h e i = elim (cases_eq x y) [
    | inl s ↦ s
    | inr ne ↦ elim (cases_lt x y) [ inl lt ↦ absurd (below-another x y lt h (e ∙ sym i)) | inr le ↦ absurd (below-another y x (omega arith) k (i ∙ sym e)) ]
  ]

  -- after items that are one less than a, none sees another
  none-after : (a left : ℕ) (xs : List ℕ) (i : ℕ) → IsRing q (left ∷ xs) → root_moved left q ≡ a → AllByRecursion (λ x. root_moved x q ≡ a) xs → sees_another left xs i ≡ true → ⊥
  none-after a left [] i r e h t = absurd cc
  none-after a left (x ∷ xs) zero r e h t = let s : x ≡ left = one-less a x left r.1.1.0 r.1.0 h.0 e in grind arith
  none-after a left (x ∷ xs) (suc i) r e h t = none-after a x xs i (omega arith, r.1.1) h.0 h.1 t

  one-after : (a left b : ℕ) (xs : List ℕ) (i : ℕ) → IsRing q (left ∷ xs) → left ≡ a → IsBoundary q a b xs → sees_another left xs i ≡ true → (i ≡ b) × (i < length xs)
  one-after a left zero [] i r e h t = absurd cc
  one-after a left (suc b) [] i r e h t = absurd h
  one-after a left zero (x ∷ xs) zero r e h t = (refl, omega arith)
  one-after a left zero (x ∷ xs) (suc i) r e h t = absurd (none-after a x xs i (omega arith, r.1.1) h.0 h.1 t)
  one-after a left (suc b) (x ∷ xs) zero r e h t = absurd (same a left x e h.0 t)
    where
      same : (a left x : ℕ) → left ≡ a → x ≡ a → not (x == left) ≡ true → ⊥
      same a left x e i t = grind arith
  one-after a left (suc b) (x ∷ xs) (suc i) r e h t = let w = one-after a x b xs i (omega arith, r.1.1) h.0 h.1 t in (ap suc w.0, omega (arith, w.1))

  last-less : (a left b : ℕ) (xs : List ℕ) → IsBoundary q a b xs → b < length xs → root_moved (last_of left xs) q ≡ a
  last-less a left b [] h k = absurd (omega arith)
  last-less a left zero (x ∷ xs) h k = All-last (λ y. root_moved y q ≡ a) x xs h.0 h.1
  last-less a left (suc b) (x ∷ xs) h k = last-less a x b xs h.1 (omega arith)

  -- if the last item equals the head, the whole ring does
  whole : (x b : ℕ) (xs : List ℕ) → IsRing q (x ∷ xs) → IsBoundary q x b xs → last_of x xs ≡ x → b ≡ length xs
  whole x b xs r h e = elim (cases_lt b (length xs)) [
    | inl k ↦ absurd (step-apart q x l r.1.0 (ap (λ z. root_moved z q) (sym e) ∙ last-less x x b xs h k))
    | inr k ↦ omega (arith, boundary-within q x b xs h)
  ]

  pub one-privileged : (i j : ℕ) (ring : List ℕ) → IsRing q ring → IsGood q ring → IsTrue (is_privileged_at ring i) → IsTrue (is_privileged_at ring j) → i ≡ j
  one-privileged i j [] r g t u = absurd (omega (arith, r.0))
  one-privileged zero zero (x ∷ xs) r g t u = refl
  one-privileged zero (suc j) (x ∷ xs) r g t u =
      let w = boundary-of_good q x xs l r g in
      let v = one-after x x w.0 xs j r refl w.2.1 u in
      absurd (omega (arith, v.0, v.1, whole x w.0 xs r w.2.1 (sym (eqb-true x (last_of x xs) t))))
  one-privileged (suc i) zero (x ∷ xs) r g t u =
      let w = boundary-of_good q x xs l r g in
      let v = one-after x x w.0 xs i r refl w.2.1 t in
      absurd (omega (arith, v.0, v.1, whole x w.0 xs r w.2.1 (sym (eqb-true x (last_of x xs) u))))
  one-privileged (suc i) (suc j) (x ∷ xs) r g t u =
      let w = boundary-of_good q x xs l r g in
      let v = one-after x x w.0 xs i r refl w.2.1 t in
      let v' = one-after x x w.0 xs j r refl w.2.1 u in
      ap suc (v.0 ∙ sym v'.0)

  -- the item at the boundary is privileged; if there is none after it, the head is
  seen-at : (a left b : ℕ) (xs : List ℕ) → a < q → left ≡ a → IsBoundary q a b xs → b < length xs → sees_another left xs b ≡ true
  seen-at a left b [] k e h s = absurd (omega arith)
  seen-at a left zero (x ∷ xs) k e h s = other x left (differs a left x k e h.0)
    where
      other : (x left : ℕ) → x ≢ left → not (x == left) ≡ true
      other x left ne = grind arith
  seen-at a left (suc b) (x ∷ xs) k e h s = seen-at a x b xs k h.0 h.1 (omega arith)

  last-front : (a left : ℕ) (xs : List ℕ) → left ≡ a → IsBoundary q a (length xs) xs → last_of left xs ≡ a
  last-front a left [] e h = e
  last-front a left (x ∷ xs) e h = last-front a x xs h.0 h.1

  pub privileged-at : (a b i : ℕ) (ring : List ℕ) → IsRing q ring → IsBoundary q a (suc b) ring → ((i ≡ suc b) × (i < length ring)) ⊎ ((i ≡ 0) × (suc b ≡ length ring)) → IsTrue (is_privileged_at ring i)
  privileged-at a b i [] r h w = absurd h
  privileged-at a b i (x ∷ xs) r h (inl (e, k)) = rw e (seen-at a x b xs (rw (← h.0) r.1.0) h.0 h.1 (omega (arith, e, k)))
  privileged-at a b i (x ∷ xs) r h (inr (e, k)) =
      let n : b ≡ length xs = omega (arith, k) in
      rw e (eq-eqb x (last_of x xs) (h.0 ∙ sym (last-front a x xs h.0 (rw n at h.1))))

  -- ---- one turn

  parallel-all : (P : ℕ → Type 0) (left : ℕ) (xs ys : List ℕ) → P left → AllByRecursion P xs → IsParallel left xs ys → AllByRecursion P ys
  parallel-all P left [] [] p ps h = tt
  parallel-all P left [] (y ∷ ys) p ps h = absurd h
  parallel-all P left (x ∷ xs) [] p ps h = absurd h
  parallel-all P left (x ∷ xs) (y ∷ ys) p ps (inl e, h) = ((rw e ps.0), parallel-all P x xs ys ps.0 ps.1 h)
  parallel-all P left (x ∷ xs) (y ∷ ys) p ps (inr e, h) = ((rw e p), parallel-all P x xs ys ps.0 ps.1 h)

  parallel-length : (left : ℕ) (xs ys : List ℕ) → IsParallel left xs ys → length ys ≡ length xs
  parallel-length left [] [] h = refl
  parallel-length left [] (y ∷ ys) h = absurd h
  parallel-length left (x ∷ xs) [] h = absurd h
  parallel-length left (x ∷ xs) (y ∷ ys) h = ap suc (parallel-length x xs ys h.1)

  -- a parallel step moves the boundary by one place at most
  parallel-boundary : (a left b : ℕ) (xs ys : List ℕ) → left ≡ a → IsBoundary q a b xs → IsParallel left xs ys → IsBoundary q a b ys ⊎ IsBoundary q a (suc b) ys
  parallel-boundary a left zero [] [] e h p = inl tt
  parallel-boundary a left (suc b) [] [] e h p = absurd h
  parallel-boundary a left b [] (y ∷ ys) e h p = absurd p
  parallel-boundary a left b (x ∷ xs) [] e h p = absurd p
  parallel-boundary a left zero (x ∷ xs) (y ∷ ys) e h (inl i, p) = inl ((rw i h.0), parallel-all (λ z. root_moved z q ≡ a) x xs ys h.0 h.1 p)
  parallel-boundary a left zero (x ∷ xs) (y ∷ ys) e h (inr i, p) = inr (i ∙ e, parallel-all (λ z. root_moved z q ≡ a) x xs ys h.0 h.1 p)
  parallel-boundary a left (suc b) (x ∷ xs) (y ∷ ys) e h (i, p) =
      let y_is : y ≡ a = elim i [ inl j ↦ j ∙ h.0 | inr j ↦ j ∙ e ] in
      elim (parallel-boundary a x b xs ys h.0 h.1 p) [ inl k ↦ inl (y_is, k) | inr k ↦ inr (y_is, k) ]

  all-less : (a : ℕ) (xs : List ℕ) → IsBoundary q a (length xs) xs → AllByRecursion (λ x. root_moved x q ≡ root_moved a q) xs
  all-less a [] h = tt
  all-less a (x ∷ xs) h = (ap (λ z. root_moved z q) h.0, all-less a xs h.1)

  turn-boundary : (a b : ℕ) {n : ℕ} {xs ys : List ℕ} → Turn q n xs ys → IsRing q xs → IsBoundary q a (suc b) xs →
      IsRing q ys × (length ys ≡ length xs)
      × (((n ≡ 0) × (IsBoundary q a (suc b) ys ⊎ IsBoundary q a (suc (suc b)) ys)) ⊎ ((n ≡ 1) × (suc b ≡ length xs) × IsBoundary q (root_moved a q) 1 ys))
  turn-boundary a b (Copies {x = x} {xs = xs} {ys = ys} p) r h = (
    (omega arith, (r.1.0, parallel-all (λ y. y < q) x xs ys r.1.0 r.1.1 p)),
    ap suc (parallel-length x xs ys p),
    inl (refl, elim (parallel-boundary a x b xs ys h.0 h.1 p) [ inl k ↦ inl (h.0, k) | inr k ↦ inr (h.0, k) ]),
  )
  turn-boundary a b (Goes_on {x = x} {xs = xs} e) r h =
      let n : b ≡ length xs = whole x b xs r (subst (λ c. IsBoundary q c b xs) (sym h.0) h.1) e in
      ((omega arith, (mod-lt (x + 1) (omega arith), r.1.1)), refl, inr (refl, ap suc n, (ap (λ z. root_moved z q) h.0, all-less a xs (rw n at h.1))))

  -- ---- along time

  -- before the head moves, the boundary comes to each place
  reach : (t n : ℕ) (ring : ℕ → List ℕ) (moves : ℕ → ℕ) (a b : ℕ) → ((k : ℕ) → k < n → Turn q (moves k) (ring k) (ring (suc k))) → IsRing q (ring 0) → IsBoundary q a (suc b) (ring 0) → b ≤ t → suc t ≤ length (ring 0) →
      1 ≤ moves_until moves n → (k : ℕ) × (k ≤ n) × (moves_until moves k ≡ 0) × IsRing q (ring k) × (length (ring k) ≡ length (ring 0)) × IsBoundary q a (suc t) (ring k)
  reach t zero ring moves a b steps r h le within many = absurd (omega arith)
  reach t (suc n) ring moves a b steps r h le within many = elim (cases_eq b t) [
    | inl e ↦ (0, omega arith, refl, r, refl, (rw (← e) h))
    | inr ne ↦ (let w = turn-boundary a b (steps 0 (omega arith)) r h in
        let go : (c : ℕ) → moves 0 ≡ 0 → c ≤ t → IsBoundary q a (suc c) (ring 1) → (k : ℕ) × (k ≤ suc n) × (moves_until moves k ≡ 0) × IsRing q (ring k) × (length (ring k) ≡ length (ring 0)) × IsBoundary q a (suc t) (ring k) =
        λ c still lc hc. (let v = reach t n (λ k. ring (suc k)) (λ k. moves (suc k)) a c (λ k l. steps (suc k) (omega arith)) w.0 hc lc (omega (arith, w.1, within)) (omega (arith, many, still, until-first moves n)) in
        (suc v.0, omega (arith, v.1), omega (arith, v.2, still, until-first moves v.0), v.3, omega (arith, v.4, w.1), v.5)) in
        elim w.2 [
          | inl u ↦ elim u.1 [ inl hc ↦ go b u.0 le hc | inr hc ↦ go (suc b) u.0 (omega arith) hc ]
          | inr u ↦ absurd (omega (arith, u.1, within, le, ne))
        ])
  ]

  -- between the head's first move and its second one, the boundary comes to each place
  pub pass : (t n : ℕ) (ring : ℕ → List ℕ) (moves : ℕ → ℕ) (a b : ℕ) → ((k : ℕ) → k < n → Turn q (moves k) (ring k) (ring (suc k))) → IsRing q (ring 0) → IsBoundary q a (suc b) (ring 0) → suc t ≤ length (ring 0) →
      2 ≤ moves_until moves n → (k c : ℕ) × (k ≤ n) × (moves_until moves k ≡ 1) × IsRing q (ring k) × (length (ring k) ≡ length (ring 0)) × IsBoundary q c (suc t) (ring k)
  pass t zero ring moves a b steps r h within many = absurd (omega arith)
  pass t (suc n) ring moves a b steps r h within many =
      let w = turn-boundary a b (steps 0 (omega arith)) r h in
      let go : (c : ℕ) → moves 0 ≡ 0 → IsBoundary q a (suc c) (ring 1) → (k d : ℕ) × (k ≤ suc n) × (moves_until moves k ≡ 1) × IsRing q (ring k) × (length (ring k) ≡ length (ring 0)) × IsBoundary q d (suc t) (ring k) =
      λ c still hc. (let v = pass t n (λ k. ring (suc k)) (λ k. moves (suc k)) a c (λ k l. steps (suc k) (omega arith)) w.0 hc (omega (arith, w.1, within)) (omega (arith, many, still, until-first moves n)) in
      (suc v.0, v.1, omega (arith, v.2), omega (arith, v.3, still, until-first moves v.0), v.4, omega (arith, v.5, w.1), v.6)) in
      elim w.2 [
        | inl u ↦ elim u.1 [ inl hc ↦ go b u.0 hc | inr hc ↦ go (suc b) u.0 hc ]
        | inr u ↦ (let v = reach t n (λ k. ring (suc k)) (λ k. moves (suc k)) (root_moved a q) 0 (λ k l. steps (suc k) (omega arith)) w.0 u.2 (omega arith) (omega (arith, w.1, within)) (omega (arith, many, u.0, until-first moves n)) in
            (suc v.0, root_moved a q, omega (arith, v.1), omega (arith, v.2, u.0, until-first moves v.0), v.3, omega (arith, v.4, w.1), v.5))
      ]

  pub privilege-passes : (n i : ℕ) (ring : ℕ → List ℕ) (moves : ℕ → ℕ) → ((k : ℕ) → k < n → Turn q (moves k) (ring k) (ring (suc k))) → (x : ℕ) (xs : List ℕ) → ring 0 ≡ x ∷ xs → IsRing q (ring 0) → IsGood q (ring 0) →
      2 ≤ moves_until moves n → i < length (ring 0) → (k : ℕ) × (k ≤ n) × (moves_until moves k ≡ 1) × IsTrue (is_privileged_at (ring k) i)
  privilege-passes n zero ring moves steps x xs e r g many within =
      let w = boundary-of_good q x xs l (rw e at r) (rw e at g) in
      let long : length (ring 0) ≡ suc (length xs) = ap length e in
      let v = pass (length xs) n ring moves x w.0 steps r (rw e w.2) (omega (arith, long)) many in
      (v.0, v.2, v.3, privileged-at v.1 (length xs) 0 (ring v.0) v.4 v.6 (inr (refl, omega (arith, v.5, long))))
  privilege-passes n (suc i) ring moves steps x xs e r g many within =
      let w = boundary-of_good q x xs l (rw e at r) (rw e at g) in
      let v = pass i n ring moves x w.0 steps r (rw e w.2) (omega arith) many in
      (v.0, v.2, v.3, privileged-at v.1 i (suc i) (ring v.0) v.4 v.6 (inl (refl, omega (arith, v.5, within))))
