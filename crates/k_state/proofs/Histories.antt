-- A ring along time: one value of the head is fresh, and the ring turns good
use Rattle.std.proofs.Common.{◌≡◌, ℕ, ◌+◌, ◌%◌, ◌<◌, ◌≤◌, ◌⊎◌, inl, inr, zero, suc, List, length, sym, ◌∙◌, ap, subst, arith}
use Rattle.std.specs.List.{AllByRecursion}
use Rattle.std.proofs.lemmas.Bool.{cases_eq, cases_lt}
use Rattle.k_state.specs.Ring.{Step, head_of, tail_of, moves_until, IsRing, IsGood, IsFreshMoment, HasFront}
use Rattle.k_state.proofs.Front.{All-weaker}
use Rattle.k_state.proofs.Steps.{Known, HasKnown, good-step, front-step, known-step, moves-step, start-known, fresh-from, fresh-front}
use Rattle.k_state.proofs.MissingValue.{In, missing, steps_apart}

moves-mono : (moves : ℕ → ℕ) (j n : ℕ) → j ≤ n → moves_until moves j ≤ moves_until moves n
moves-mono moves j zero l = let e : j ≡ 0 = omega arith in (rw e (omega arith))
moves-mono moves j (suc n) l = elim (cases_eq j (suc n)) [ inl e ↦ (rw e (omega arith)) | inr ne ↦ omega (arith, moves-mono moves j n (omega arith)) ]

pub until-first : (m : ℕ → ℕ) (k : ℕ) → moves_until m (suc k) ≡ m 0 + moves_until (λ i. m (suc i)) k
until-first m zero = omega arith
until-first m (suc k) = omega (arith, until-first m k)

-- the first moment at which s moves have been made
first_time : (moves : ℕ → ℕ) (n s : ℕ) → ((k : ℕ) → k < n → moves k ≤ 1) → s ≤ moves_until moves n →
    (k : ℕ) × (k ≤ n) × (moves_until moves k ≡ s) × ((j : ℕ) → j < k → moves_until moves j < s)
first_time moves zero s few l = (0, omega arith, omega arith, λ j h. absurd (omega arith))
first_time moves (suc n) s few l = elim (cases_lt (moves_until moves n) s) [
  | inl lt ↦ (suc n, omega arith, omega (arith, few n (omega arith)), λ j h. omega (arith, moves-mono moves j n (omega arith)))
  | inr le ↦ (let w = first_time moves n s (λ k h. few k (omega arith)) le in (w.0, omega (arith, w.1), w.2, w.3))
]

module _ (q n : ℕ) (ring : ℕ → List ℕ) (moves : ℕ → ℕ) (start : IsRing q (ring 0)) (steps : (k : ℕ) → k < n → Step q (moves k) (ring k) (ring (suc k))) where
  known-run : (k : ℕ) → k ≤ n → HasKnown q (head_of (ring 0)) (tail_of (ring 0)) (moves_until moves k) (ring k)
  known-run zero l = (start-known q (ring 0) start).0
  known-run (suc k) l =
      elim (known-step q (head_of (ring 0)) (tail_of (ring 0)) (moves_until moves k) (steps k (omega arith)) (known-run k (omega arith))) [
        | inl w ↦ (let e : moves_until moves k ≡ moves_until moves k + moves k = omega (arith, w.0) in
            subst (λ t. HasKnown q (head_of (ring 0)) (tail_of (ring 0)) t (ring (suc k))) e w.1)
        | inr w ↦ (let e : suc (moves_until moves k) ≡ moves_until moves k + moves k = omega (arith, w.0) in
            subst (λ t. HasKnown q (head_of (ring 0)) (tail_of (ring 0)) t (ring (suc k))) e w.1)
      ]

  -- what stands beside the head right after its s-th move
  tail-run : (s k : ℕ) → k ≤ n → moves_until moves k ≡ s → ((j : ℕ) → j < k → moves_until moves j < s) →
      AllByRecursion (λ y. In y (tail_of (ring 0)) ⊎ ((j : ℕ) × (j < s) × (y ≡ (head_of (ring 0) + j) % q))) (tail_of (ring k))
  tail-run s zero l e first = All-weaker (λ y. In y (tail_of (ring 0))) (λ y. In y (tail_of (ring 0)) ⊎ ((j : ℕ) × (j < s) × (y ≡ (head_of (ring 0) + j) % q))) (λ y i. inl i) (tail_of (ring 0)) (start-known q (ring 0) start).1
  tail-run s (suc k) l e first =
      elim (known-step q (head_of (ring 0)) (tail_of (ring 0)) (moves_until moves k) (steps k (omega arith)) (known-run k (omega arith))) [
        | inl w ↦ absurd (omega (arith, w.0, first k (omega arith)))
        | inr w ↦ All-weaker (Known q (head_of (ring 0)) (tail_of (ring 0)) (moves_until moves k)) (λ y. In y (tail_of (ring 0)) ⊎ ((j : ℕ) × (j < s) × (y ≡ (head_of (ring 0) + j) % q)))
            (λ y i. elim i [ inl h ↦ inl h | inr v ↦ inr (v.0, omega (arith, v.1, first k (omega arith)), v.2) ]) (tail_of (ring (suc k))) w.2
      ]

  pub fresh-history : length (ring 0) ≤ q → length (ring 0) ≤ moves_until moves n → (k : ℕ) × (k ≤ n) × IsFreshMoment ring moves k
  fresh-history short many =
      let long : length (ring 0) ≡ suc (length (tail_of (ring 0))) = (start-known q (ring 0) start).2 in
      let w = missing (λ s. (head_of (ring 0) + s) % q) (length (ring 0)) (tail_of (ring 0)) (λ i j l k. steps_apart q (head_of (ring 0)) i j l (omega arith)) (omega arith) in
      let f = first_time moves n w.0 (λ k l. moves-step q (steps k l)) (omega (arith, w.1)) in
      let at = (known-run f.0 f.1).0 in
      let at' : head_of (ring f.0) ≡ (head_of (ring 0) + w.0) % q = at ∙ ap (λ t. (head_of (ring 0) + t) % q) f.2 in (
        f.0,
        f.1,
        record { early = omega (arith, w.1, f.2); fresh = fresh-from q (head_of (ring 0)) (tail_of (ring 0)) w.0 (ring f.0) (omega (arith, w.1)) w.2 at' (tail-run w.0 f.0 f.1 f.2 f.3); first = λ j l e. steps_apart q (head_of (ring 0)) (moves_until moves j) w.0 (f.3 j l) (omega (arith, w.1)) (sym (known-run j (omega (arith, f.1))).0 ∙ (e ∙ at')) },
      )

  -- after that moment
  after-run : (a k : ℕ) → k ≤ n → HasFront a (ring k) → (m : ℕ) → k ≤ m → m ≤ n →
      ((moves_until moves m ≡ moves_until moves k) × HasFront a (ring m)) ⊎ IsGood q (ring m)
  after-run a k l h zero le le' = let e : k ≡ 0 = omega arith in inl (ap (moves_until moves) (sym e), subst (λ i. HasFront a (ring i)) e h)
  after-run a k l h (suc m) le le' = elim (cases_eq k (suc m)) [
    | inl e ↦ inl (ap (moves_until moves) (sym e), subst (λ i. HasFront a (ring i)) e h)
    | inr ne ↦ elim (after-run a k l h m (omega arith) (omega arith)) [
      | inl w ↦ elim (front-step q a (steps m (omega arith)) w.1) [ inl v ↦ inl (omega (arith, w.0, v.0), v.1) | inr g ↦ inr g.1 ]
      | inr g ↦ inr (good-step q (steps m (omega arith)) g)
    ]
  ]

  pub good-history : length (ring 0) ≤ q → length (ring 0) ≤ moves_until moves n → IsGood q (ring n)
  good-history short many =
      let w = fresh-history short many in
      elim (after-run (head_of (ring w.0)) w.0 w.1 (fresh-front (ring w.0) w.2.fresh) n w.1 (omega arith)) [
        | inl v ↦ absurd (omega (arith, v.0, w.2.early))
        | inr g ↦ g
      ]
