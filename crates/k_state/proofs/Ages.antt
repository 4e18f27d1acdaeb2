-- If ages never rise along the ring, the items that equal the head stand in front; so the next
-- head move makes the ring good
use Rattle.std.proofs.Common.{◌≡◌, ◌≢◌, ℕ, ◌+◌, ◌-◌, ◌%◌, ◌<◌, ◌≤◌, inl, inr, List, [], ◌∷◌, refl, sym, ◌∙◌, ap, arith}
use Rattle.std.specs.List.{AllByRecursion}
use Rattle.std.proofs.lemmas.Bool.{cases_eq, cases_lt}
use Rattle.std.proofs.Math.Nat.{mod-add-mod, mod-eq_of_lt, mod_self}
use Rattle.k_state.specs.Machine.{root_moved}
use Rattle.k_state.specs.Ring.{Change, Copied, Written, Removed, Further, HeadMove, Moved, Dropped, Run, Done, Move_first, Change_first, IsRing, IsGood, IsFrontThen, HasFront, but_last, head_of}
use Rattle.k_state.specs.Ages.{age, AgesFall, HasFallingAges}
use Rattle.k_state.proofs.MissingValue.{steps_apart}
use Rattle.k_state.proofs.Front.{head-change}
use Rattle.k_state.proofs.Runs.{front-run}

-- ---- the age of a value

pub age-of_start : (q start : ℕ) → start < q → age q start start ≡ 0
age-of_start q start l = let e : q - start + start ≡ q = omega (arith, l) in ap (λ n. n % q) e ∙ mod_self q

-- different values have different ages
pub same-age : (q start x y : ℕ) → x < q → y < q → age q start x ≡ age q start y → x ≡ y
same-age q start x y k l e = elim (cases_eq x y) [
  | inl s ↦ s
  | inr ne ↦ elim (cases_lt x y) [
    | inl lt ↦ absurd (steps_apart q (q - start) x y lt l e)
    | inr le ↦ absurd (steps_apart q (q - start) y x (omega arith) k (sym e))
  ]
]

-- a move makes the head's value one older, until all values are used up
pub age-moved : (q start x : ℕ) → age q start x + 1 < q → age q start (root_moved x q) ≡ age q start x + 1
age-moved q start x l =
    let c = q - start in
    let turn : c + (x + 1) % q ≡ (x + 1) % q + c = omega arith in
    let join : x + 1 + c ≡ c + x + 1 = omega arith in
    ap (λ n. n % q) turn ∙ (mod-add-mod (x + 1) q c ∙ (ap (λ n. n % q) join ∙ (sym (mod-add-mod (c + x) q 1) ∙ mod-eq_of_lt l)))

-- ---- what keeps ages from rising

ages-weaker : (q start newer newest : ℕ) (xs : List ℕ) → newer ≤ newest → AgesFall q start newer xs → AgesFall q start newest xs
ages-weaker q start newer newest [] l h = tt
ages-weaker q start newer newest (x ∷ xs) l h = (omega (arith, l, h.0), h.1)

ages-change : (q start newest : ℕ) {xs ys : List ℕ} → Change xs ys → AgesFall q start newest xs → AgesFall q start newest ys
ages-change q start newest (Copied {x = x}) h = (h.0, (omega arith, h.1))
ages-change q start newest (Written {x = x} {y = y} {xs = xs}) h =
    (h.0, (omega arith, ages-weaker q start (age q start y) (age q start x) xs h.1.0 h.1.1))
ages-change q start newest (Removed {x = x} {y = y} {xs = xs}) h = (h.0, ages-weaker q start (age q start y) (age q start x) xs h.1.0 h.1.1)
ages-change q start newest (Further {x = x} c) h = (h.0, ages-change q start (age q start x) c h.1)

ages-but_last : (q start newest x : ℕ) (xs : List ℕ) → AgesFall q start newest (x ∷ xs) → AgesFall q start newest (but_last x xs)
ages-but_last q start newest x [] h = tt
ages-but_last q start newest x (y ∷ ys) h = (h.0, ages-but_last q start (age q start x) y ys h.1)

falling-change : (q start : ℕ) {xs ys : List ℕ} → Change xs ys → HasFallingAges q start xs → HasFallingAges q start ys
falling-change q start (Copied {x = x}) h = (omega arith, h)
falling-change q start (Written {x = x} {y = y} {xs = xs}) h = (omega arith, ages-weaker q start (age q start y) (age q start x) xs h.0 h.1)
falling-change q start (Removed {x = x} {y = y} {xs = xs}) h = ages-weaker q start (age q start y) (age q start x) xs h.0 h.1
falling-change q start (Further {x = x} c) h = ages-change q start (age q start x) c h

falling-move : (q start : ℕ) {xs ys : List ℕ} → HeadMove q xs ys → HasFallingAges q start xs → age q start (head_of xs) + 1 < q
    → HasFallingAges q start ys × (age q start (head_of ys) ≡ age q start (head_of xs) + 1)
falling-move q start (Moved {x = x} {xs = xs} e) h l =
    let m = age-moved q start x l in
    (ages-weaker q start (age q start x) (age q start (root_moved x q)) xs (omega (arith, m)) h, m)
falling-move q start (Dropped {x = x} {y = y} {ys = ys} e) h l =
    let m = age-moved q start x l in
    let rest = ages-but_last q start (age q start x) y ys h in
    (ages-weaker q start (age q start x) (age q start (root_moved x q)) (but_last y ys) (omega (arith, m)) rest, m)

pub ages-stay : (q start : ℕ) {n : ℕ} {xs ys : List ℕ} → Run q n xs ys → HasFallingAges q start xs
    → age q start (head_of xs) + n < q
    → HasFallingAges q start ys × (age q start (head_of ys) ≡ age q start (head_of xs) + n)
ages-stay q start Done h l = (h, omega arith)
ages-stay q start (Move_first m r) h l =
    let w = falling-move q start m h (omega (arith, l)) in
    let v = ages-stay q start r w.0 (omega (arith, l, w.1)) in
    (v.0, omega (arith, v.1, w.1))
ages-stay q start (Change_first {n = n} {ys = ys} c r) h l =
    let e = ap (age q start) (head-change c) in
    let v = ages-stay q start r (falling-change q start c h) (omega (arith, l, e)) in
    (v.0, omega (arith, v.1, e))

-- ---- the head's age stands in front

-- after an item that is older than the head no item has the head's value
none-newer : (q start x older : ℕ) (xs : List ℕ) → older < age q start x → AgesFall q start older xs → AllByRecursion (λ y. y ≢ x) xs
none-newer q start x older [] l h = tt
none-newer q start x older (y ∷ ys) l h =
    ((λ i. let e = ap (age q start) i in omega (arith, l, h.0, e)), none-newer q start x (age q start y) ys (omega (arith, l, h.0)) h.1)

newest-first : (q start x : ℕ) (xs : List ℕ) → x < q → AllByRecursion (λ y. y < q) xs → AgesFall q start (age q start x) xs
    → IsFrontThen (λ y. y ≡ x) (λ y. y ≢ x) xs
newest-first q start x [] l b h = tt
newest-first q start x (y ∷ ys) l b h = elim (cases_eq (age q start y) (age q start x)) [
  | inl e ↦ (let rest = ages-weaker q start (age q start y) (age q start x) ys h.0 h.1 in
      inl (same-age q start y x b.0 l e, newest-first q start x ys l b.1 rest))
  | inr n ↦ (let rest = none-newer q start x (age q start y) ys (omega (arith, n, h.0)) h.1 in
      inr ((λ i. n (ap (age q start) i)), rest))
]

pub falling-front : (q start : ℕ) (ring : List ℕ) → IsRing q ring → HasFallingAges q start ring → HasFront (head_of ring) ring
falling-front q start [] r h = (refl, tt)
falling-front q start (x ∷ xs) r h = (refl, inl (refl, newest-first q start x xs r.1.0 r.1.1 h))

-- ---- one head move

pub ages-good : (q start : ℕ) {n : ℕ} {xs ys : List ℕ} → Run q n xs ys → IsRing q xs → HasFallingAges q start xs → 0 < n → IsGood q ys
ages-good q start {xs = xs} r i h l = front-run q (head_of xs) r (falling-front q start xs i h) l
