-- A run keeps a good ring good, and makes a ring good after as many head moves as it had items
use Rattle.std.proofs.Common.{◌≡◌, ℕ, ◌+◌, ◌%◌, ◌<◌, ◌≤◌, ◌⊎◌, inl, inr, suc, List, length, sym, ◌∙◌, ap, subst, arith}
use Rattle.std.proofs.lemmas.Bool.{cases_eq}
use Rattle.k_state.specs.Ring.{Run, Done, Move_first, Change_first, Stays, Moves, Changes, head_of, tail_of, IsRing, IsGood, HasFront}
use Rattle.k_state.proofs.Front.{All-weaker}
use Rattle.k_state.proofs.Steps.{Known, HasKnown, good-step, front-step, known-step, start-known, fresh-from, fresh-front}
use Rattle.k_state.proofs.MissingValue.{In, missing, steps_apart}

pub good-run : (q : ℕ) {n : ℕ} {xs ys : List ℕ} → Run q n xs ys → IsGood q xs → IsGood q ys
good-run q Done g = g
good-run q (Move_first m r) g = good-run q r (good-step q (Moves m) g)
good-run q (Change_first c r) g = good-run q r (good-step q (Changes c Stays) g)

pub front-run : (q a : ℕ) {n : ℕ} {xs ys : List ℕ} → Run q n xs ys → HasFront a xs → 0 < n → IsGood q ys
front-run q a Done h l = absurd (omega arith)
front-run q a (Move_first m r) h l = elim (front-step q a (Moves m) h) [ inl w ↦ absurd (omega (arith, w.0)) | inr w ↦ good-run q r w.1 ]
front-run q a (Change_first c r) h l = elim (front-step q a (Changes c Stays) h) [ inl w ↦ front-run q a r w.1 l | inr w ↦ absurd (omega (arith, w.0)) ]

module _ (q h : ℕ) (others : List ℕ) (s : ℕ) (small : s < q) (out : ¬ (In ((h + s) % q) others)) where
  early-run : {n : ℕ} {xs ys : List ℕ} (t : ℕ) → Run q n xs ys → t < s → HasKnown q h others t xs → s < t + n → IsGood q ys
  early-run t Done l k m = absurd (omega arith)
  early-run t (Move_first {n = n} {ys = ys} m r) l k b = elim (known-step q h others t (Moves m) k) [
    | inl w ↦ absurd (omega (arith, w.0))
    | inr w ↦ elim (cases_eq (suc t) s) [
      | inl e ↦ (let at : head_of ys ≡ (h + s) % q = w.1.0 ∙ ap (λ i. (h + i) % q) e in
          let fresh = fresh-from q h others s ys small out at (All-weaker (Known q h others t) (λ y. In y others ⊎ ((j : ℕ) × (j < s) × (y ≡ (h + j) % q)))
          (λ y i. elim i [ inl o ↦ inl o | inr v ↦ inr (v.0, omega (arith, v.1), v.2) ]) (tail_of ys) w.2) in
          front-run q (head_of ys) r (fresh-front ys fresh) (omega arith))
      | inr ne ↦ early-run (suc t) r (omega arith) w.1 (omega arith)
    ]
  ]
  early-run t (Change_first c r) l k b = elim (known-step q h others t (Changes c Stays) k) [
    | inl w ↦ early-run t r l w.1 b
    | inr w ↦ absurd (omega (arith, w.0))
  ]

pub becomes-run : (q : ℕ) {n : ℕ} {xs ys : List ℕ} → Run q n xs ys → IsRing q xs → length xs ≤ q → length xs ≤ n → IsGood q ys
becomes-run q {n} {xs} {ys} r i short many =
    let k = start-known q xs i in
    let w = missing (λ s. (head_of xs + s) % q) (length xs) (tail_of xs) (λ i j l k. steps_apart q (head_of xs) i j l (omega arith)) (omega (arith, k.2)) in
    elim (cases_eq w.0 0) [
      | inl e ↦ (let fresh = fresh-from q (head_of xs) (tail_of xs) w.0 xs (omega (arith, w.1)) w.2 (subst (λ s. head_of xs ≡ (head_of xs + s) % q) (sym e) k.0.0)
          (All-weaker (λ y. In y (tail_of xs)) (λ y. In y (tail_of xs) ⊎ ((j : ℕ) × (j < w.0) × (y ≡ (head_of xs + j) % q))) (λ y o. inl o) (tail_of xs) k.1) in
          front-run q (head_of xs) r (fresh-front xs fresh) (omega (arith, k.2)))
      | inr ne ↦ early-run q (head_of xs) (tail_of xs) w.0 (omega (arith, w.1)) w.2 0 r (omega arith) k.0 (omega (arith, w.1))
    ]
