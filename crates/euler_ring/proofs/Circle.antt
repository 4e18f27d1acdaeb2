-- An ascending list as a circle: what comes after each item, and round to the first.
use Rattle.std.proofs.Common.{◌≡◌, ℕ, ◌+◌, ◌≤◌, true, List, [], ◌∷◌, ◌++◌, Some, inl, inr, refl, sym, ◌∙◌, ap, subst, arith, append_assoc}
use Rattle.std.specs.Prelude.{unwrap_or}
use Rattle.std.proofs.lemmas.Bool.{cases_eq}
use Rattle.std.proofs.lemmas.Bool.Decides.{nat_tests}
use Rattle.std.proofs.lemmas.List.{append-nil}
use Rattle.euler_ring.specs.Cycle.{is_on, lowest, highest, above, below, next_after, source_for}
use Rattle.euler_ring.proofs.Ascending.{IsFrom, from-less, above_all}

-- ---- a list cut at one of its items

-- what comes later is no less
later : (low : ℕ) (us : List ℕ) (m : ℕ) (ys : List ℕ) → IsFrom low (us ++ m ∷ ys) → low ≤ m
later low [] m ys h = h.0
later low (u ∷ us) m ys h = omega (arith, h.0, later (u + 1) us m ys h.1)

below_none : (m : ℕ) (xs : List ℕ) → IsFrom m xs → below m xs ≡ []
below_none m [] h = refl
below_none m (x ∷ xs) h =
    let rest = below_none m xs (from-less m (x + 1) xs (omega (arith, h.0)) h.1) in
    let more : m ≤ x = h.0 in
    grind (arith, nat_tests)

pub above-cut : (low : ℕ) (us : List ℕ) (m : ℕ) (ys : List ℕ) → IsFrom low (us ++ m ∷ ys) → above m (us ++ m ∷ ys) ≡ ys
above-cut low [] m ys h = let rest = above_all m ys h.1 in grind (arith, nat_tests)
above-cut low (u ∷ us) m ys h =
    let rest = above-cut (u + 1) us m ys h.1 in
    let more = later (u + 1) us m ys h.1 in
    grind (arith, nat_tests)

pub below-cut : (low : ℕ) (us : List ℕ) (m : ℕ) (ys : List ℕ) → IsFrom low (us ++ m ∷ ys) → below m (us ++ m ∷ ys) ≡ us
below-cut low [] m ys h = let rest = below_none m ys (from-less m (m + 1) ys (omega arith) h.1) in grind (arith, nat_tests)
below-cut low (u ∷ us) m ys h =
    let rest = below-cut (u + 1) us m ys h.1 in
    let more = later (u + 1) us m ys h.1 in
    grind (arith, nat_tests)

-- an item cuts its list in two
pub cut_at : (low : ℕ) (xs : List ℕ) (m : ℕ) → IsFrom low xs → is_on xs m ≡ true → (us ys : List ℕ) × (xs ≡ us ++ m ∷ ys)
cut_at low [] m h on = absurd (grind arith)
cut_at low (x ∷ xs) m h on = elim (cases_eq x m) [
  | inl e ↦ ([], xs, ap (λ y. y ∷ xs) e)
  | inr ne ↦ (
      let there : is_on xs m ≡ true = grind (arith, nat_tests) in
      let (us, ys, e) = cut_at (x + 1) xs m h.1 there in
      (x ∷ us, ys, ap (λ zs. x ∷ zs) e))
]

-- the last of a list, seen from an item and those after it
abbrev pub last_of : ℕ → List ℕ → ℕ
last_of m [] = m
last_of m (y ∷ ys) = last_of y ys

last-cut : (us : List ℕ) (m : ℕ) (ys : List ℕ) → (front : List ℕ) × (us ++ m ∷ ys ≡ front ++ last_of m ys ∷ [])
last-cut us m [] = (us, refl)
last-cut us m (y ∷ ys) =
    let (front, e) = last-cut (us ++ m ∷ []) y ys in
    (front, sym (append_assoc us (m ∷ []) (y ∷ ys)) ∙ e)

highest-push : (xs : List ℕ) (t : ℕ) → highest (xs ++ t ∷ []) ≡ Some t
highest-push [] t = refl
highest-push (x ∷ xs) t = rw (highest-push xs t) refl

-- ---- what comes after an item

pub next-inner : (ts us : List ℕ) (m y : ℕ) (vs : List ℕ) → IsFrom 0 ts → ts ≡ us ++ m ∷ y ∷ vs → next_after ts m ≡ y
next-inner ts us m y vs h e =
    let up : above m ts ≡ y ∷ vs = ap (above m) e ∙ above-cut 0 us m (y ∷ vs) (subst (IsFrom 0) e h) in
    rw up refl

pub next-last : (ts us : List ℕ) (m : ℕ) → IsFrom 0 ts → ts ≡ us ++ m ∷ [] → next_after ts m ≡ unwrap_or (lowest ts) m
next-last ts us m h e =
    let up : above m ts ≡ [] = ap (above m) e ∙ above-cut 0 us m [] (subst (IsFrom 0) e h) in
    rw up refl

source-inner : (ts us : List ℕ) (m y : ℕ) (vs : List ℕ) → IsFrom 0 ts → ts ≡ us ++ m ∷ y ∷ vs → source_for ts y ≡ m
source-inner ts us m y vs h e =
    let f : ts ≡ (us ++ m ∷ []) ++ y ∷ vs = e ∙ sym (append_assoc us (m ∷ []) (y ∷ vs)) in
    let down : below y ts ≡ us ++ m ∷ [] = ap (below y) f ∙ below-cut 0 (us ++ m ∷ []) y vs (subst (IsFrom 0) f h) in
    rw (down, highest-push us m) refl

source-first : (ts : List ℕ) (w : ℕ) (ys : List ℕ) → IsFrom 0 ts → ts ≡ w ∷ ys → source_for ts w ≡ unwrap_or (highest ts) w
source-first ts w ys h e =
    let down : below w ts ≡ [] = ap (below w) e ∙ below-cut 0 [] w ys (subst (IsFrom 0) e h) in
    rw down refl

-- the last is followed by the first
ends : (ts : List ℕ) (x : ℕ) (xs us : List ℕ) (t : ℕ) → IsFrom 0 ts → ts ≡ x ∷ xs → ts ≡ us ++ t ∷ [] → (next_after ts t ≡ x) × (source_for ts x ≡ t)
ends ts x xs us t h e f =
    let first : lowest ts ≡ Some x = ap lowest e in
    let last : highest ts ≡ Some t = ap highest f ∙ highest-push us t in
    (next-last ts us t h f ∙ ap (λ o. unwrap_or o t) first, source-first ts x xs h e ∙ ap (λ o. unwrap_or o x) last)

-- an item that is not the first has one before it
before : (u : ℕ) (us : List ℕ) (w : ℕ) (ys : List ℕ) → (front : List ℕ) × ((u ∷ us) ++ w ∷ ys ≡ front ++ last_of u us ∷ w ∷ ys)
before u us w ys =
    let (front, e) = last-cut [] u us in
    (front, ap (λ xs. xs ++ w ∷ ys) e ∙ append_assoc front (last_of u us ∷ []) (w ∷ ys))

-- ---- next and source undo each other

pub source_of_next : (ts : List ℕ) (t : ℕ) → IsFrom 0 ts → is_on ts t ≡ true → source_for ts (next_after ts t) ≡ t
source_of_next ts t h on =
    let (us, ys, e) = cut_at 0 ts t h on in
    go us ys e where
      go : (us ys : List ℕ) → ts ≡ us ++ t ∷ ys → source_for ts (next_after ts t) ≡ t
      go us (y ∷ vs) e = ap (source_for ts) (next-inner ts us t y vs h e) ∙ source-inner ts us t y vs h e
      go [] [] e = let both = ends ts t [] [] t h e e in ap (source_for ts) both.0 ∙ both.1
      go (u ∷ us) [] e = let both = ends ts u (us ++ t ∷ []) (u ∷ us) t h e e in ap (source_for ts) both.0 ∙ both.1

pub next_of_source : (ts : List ℕ) (w : ℕ) → IsFrom 0 ts → is_on ts w ≡ true → next_after ts (source_for ts w) ≡ w
next_of_source ts w h on =
    let (us, ys, e) = cut_at 0 ts w h on in
    go us ys e where
      go : (us ys : List ℕ) → ts ≡ us ++ w ∷ ys → next_after ts (source_for ts w) ≡ w
      go [] ys e =
          let (front, f) = last-cut [] w ys in
          let both = ends ts w ys front (last_of w ys) h e (e ∙ f) in
          ap (next_after ts) both.1 ∙ both.0
      go (u ∷ us) ys e =
          let (front, f) = before u us w ys in
          ap (next_after ts) (source-inner ts front (last_of u us) w ys h (e ∙ f)) ∙ next-inner ts front (last_of u us) w ys h (e ∙ f)

-- ---- round

-- after m come these, one after the other, and then p
abbrev pub IsCycle : (ℕ → ℕ) → ℕ → List ℕ → ℕ → Type 0
IsCycle after m [] p = after m ≡ p
IsCycle after m (c ∷ cs) p = (after m ≡ c) × IsCycle after c cs p

-- up along a stretch of the list, and on
climb : (ts us : List ℕ) (m : ℕ) (ys more zs : List ℕ) (q : ℕ) → IsFrom 0 ts → ts ≡ us ++ m ∷ (ys ++ more) → IsCycle (next_after ts) (last_of m ys) zs q → IsCycle (next_after ts) m (ys ++ zs) q
climb ts us m [] more zs q h e c = c
climb ts us m (y ∷ ys) more zs q h e c = (
  next-inner ts us m y (ys ++ more) h e,
  climb ts (us ++ m ∷ []) y ys more zs q h (e ∙ sym (append_assoc us (m ∷ []) (y ∷ ys ++ more))) c,
)

-- from p up to the largest, and from the smallest up to p
pub round_from : (ts us : List ℕ) (p : ℕ) (ys : List ℕ) → IsFrom 0 ts → ts ≡ us ++ p ∷ ys → IsCycle (next_after ts) p (ys ++ us) p
round_from ts us p ys h e = climb ts us p ys [] us p h (e ∙ ap (λ zs. us ++ p ∷ zs) (sym (append-nil ys))) (rest us e) where
  rest : (us : List ℕ) → ts ≡ us ++ p ∷ ys → IsCycle (next_after ts) (last_of p ys) us p
  rest [] e = let (front, f) = last-cut [] p ys in (ends ts p ys front (last_of p ys) h e (e ∙ f)).0
  rest (x ∷ xs) e =
      let (front, f) = last-cut (x ∷ xs) p ys in
      let (inner, g) = before x xs p ys in
      let up = climb ts [] x xs (p ∷ ys) [] p h e (next-inner ts inner (last_of x xs) p ys h (e ∙ g)) in
      ((ends ts x (xs ++ p ∷ ys) front (last_of p ys) h e (e ∙ f)).0, rw append-nil at up)
