-- On the token ring an event is a parallel step, perhaps followed by a move of the head.
use Rattle.std.proofs.Common.{◌≡◌, ◌≢◌, ℕ, ◌+◌, ◌*◌, ◌-◌, ◌<◌, ◌≤◌, ◌⊎◌, inl, inr, Bool, true, false, ◌==◌, List, [], ◌∷◌, length, refl, sym, ◌∙◌, ap, subst, arith}
use Rattle.std.specs.Prelude.{if◌then◌else◌}
use Rattle.std.specs.List.{AllByRecursion}
use Rattle.std.proofs.lemmas.Bool.{eq-eqb, ne_eqb, cases_lt, eqb-true}
use Rattle.topology.specs.Network.{Network, ring_of}
use Rattle.std.proofs.Math.Nat.{mod-eq_of_lt, mod_self}
use Rattle.k_state.specs.Machine.{root_moved, is_privileged}
use Rattle.k_state.specs.Ring.{Run, Done, Moves, Moved, IsParallel, IsRing, IsGood, head_of, last_of}
use Rattle.run_model.specs.World.{World}
use Rattle.run_model.specs.Step.{step}
use Rattle.run_model.specs.Run.{run, is_damage, IsUndamaged}
use Rattle.convergence.specs.Ring.{Leg, legs, token_ring, IsTokenRingGood}
use Rattle.convergence.specs.Legs.{IsTour, IsTreeLeg, IsFollowed, IsAmong, last_leg, is_special_leg, machine_value, staged_value, copied_value, seen_value}
use Rattle.run_model.specs.declared.event.Event.{Event}
use Rattle.run_model.proofs.Along.{undamaged-front}
use Rattle.convergence.proofs.RingPlaces.{values_of, leg_may_move, last-value, seen-is_copied}
use Rattle.convergence.proofs.Privileges.{values-in, seen-in, several-values}
use Rattle.convergence.specs.Moves.{head_value, head_move, head_moves}
use Rattle.convergence.specs.RingBelow.{Below}
use Rattle.convergence.proofs.Settled.{IsSettledOn, settled-event, settled-run}
use Rattle.convergence.proofs.LegEvents.{machine-event, staged-event, copied-event}

pub head-goes-on : (q x : ℕ) → 1 < q → x < q → root_moved x q ≢ x
head-goes-on q x l k e = elim (cases_lt (x + 1) q) [
  | inl s ↦ (let m : x + 1 ≡ x = sym (mod-eq_of_lt s) ∙ e in omega (arith, m))
  | inr g ↦ (let wraps : q ≡ x + 1 = omega (arith, g) in let m : 0 ≡ x = sym (mod_self (x + 1)) ∙ ap (λ n. root_moved x n) (sym wraps) ∙ e in omega (arith, m))
]

-- the special machine may move if it sees its own value
pub special-sees : (w : World) (l : Leg) → is_special_leg w.net l ≡ true → leg_may_move w l ≡ true → machine_value w l ≡ seen_value w l
special-sees w l s h = eqb-true (machine_value w l) (seen_value w l) (subst (λ c. is_privileged c (machine_value w l) (seen_value w l) ≡ true) s h)

pub special-on : (net : Network) (w : World) (l : Leg) (c : Bool) → w.net ≡ net → is_special_leg net l ≡ c → is_special_leg w.net l ≡ c
special-on net w l c e h = subst (λ n. is_special_leg n l ≡ c) (sym e) h

module _ (b : Below) (net : Network) (tour : IsTour net) where
  abbrev pub whole : List Leg
  whole = tour.first ∷ tour.others

  pub ring-is : (w : World) → w.net ≡ net → token_ring w ≡ values_of w whole
  ring-is w e = ap (values_of w) (ap legs e ∙ tour.are)

  pub head-is : (w : World) → w.net ≡ net → head_value w ≡ machine_value w tour.first
  head-is w e = ap head_of (ring-is w e)

  pub first-sees : (w : World) → seen_value w tour.first ≡ copied_value w (last_leg tour.first tour.others)
  first-sees w = seen-is_copied w (last_leg tour.first tour.others) tour.first tour.closed.0

  -- a machine other than the special one stays, or takes what it sees
  pub plain-event : (w : World) (e : Event) (l : Leg) → IsSettledOn net w → is_damage w e ≡ false → IsAmong l tour.others
      → (machine_value (step w e) l ≡ machine_value w l) ⊎ (machine_value (step w e) l ≡ seen_value w l)
  plain-event w e l s d i = elim (machine-event b net w e l s d (tour.tree l (inr i))) [
    | inl k ↦ inl k
    | inr m ↦ inr (m.1 ∙ ap (λ c. if c then root_moved (machine_value w l) (ring_of w.net) else seen_value w l) (special-on net w l false s.1 (tour.others_not l i)))
  ]

  -- the special machine stays, or sees its own value and takes the next
  pub special-event : (w : World) (e : Event) → IsSettledOn net w → is_damage w e ≡ false
      → (machine_value (step w e) tour.first ≡ machine_value w tour.first)
      ⊎ ((machine_value (step w e) tour.first ≡ root_moved (machine_value w tour.first) (ring_of net)) × (seen_value (step w e) tour.first ≡ machine_value w tour.first))
  special-event w e s d = elim (machine-event b net w e tour.first s d (tour.tree tour.first (inl refl))) [
    | inl k ↦ inl k
    | inr m ↦ (let sp = special-on net w tour.first true s.1 tour.first_special in
        inr (
          m.1
              ∙ ap (λ c. if c then root_moved (machine_value w tour.first) (ring_of w.net) else seen_value w tour.first) sp
              ∙ ap (λ n. root_moved (machine_value w tour.first) (ring_of n)) s.1,
          m.2 ∙ sym (special-sees w tour.first sp m.0),
        ))
  ]

  others-event : (w : World) (e : Event) → IsSettledOn net w → is_damage w e ≡ false → (p : Leg) (ls : List Leg) → IsFollowed p ls
      → ((l : Leg) → IsAmong l ls → IsAmong l tour.others) → IsParallel (copied_value w p) (values_of w ls) (values_of (step w e) ls)
  others-event w e s d p [] f i = tt
  others-event w e s d p (l ∷ ls) f i =
      let j = i l (inl refl) in
      let t = tour.tree l (inr j) in (
        elim (plain-event w e l s d j) [ inl k ↦ inl k | inr k ↦ inr (k ∙ seen-is_copied w p l f.0) ],
        (staged-event b net w e l s d t, (copied-event b net w e l s d t, others-event w e s d l ls f.1 (λ k m. i k (inr m)))),
      )

  -- all that follows the head makes a parallel step
  abbrev followers : World → List ℕ
  followers w = staged_value w tour.first ∷ copied_value w tour.first ∷ values_of w tour.others

  followers-event : (w : World) (e : Event) → IsSettledOn net w → is_damage w e ≡ false → IsParallel (machine_value w tour.first) (followers w) (followers (step w e))
  followers-event w e s d =
      let t = tour.tree tour.first (inl refl) in
      (staged-event b net w e tour.first s d t, (copied-event b net w e tour.first s d t, others-event w e s d tour.first tour.others tour.closed.1 (λ l i. i)))

  pub head-in : (w : World) → IsSettledOn net w → machine_value w tour.first < ring_of net
  head-in w s =
      let r = values-in b.back b.nodes b.near b.view w s.0.range whole (λ l i. subst (λ n. IsTreeLeg n l) (sym s.1) (tour.tree l i)) in
      subst (λ n. machine_value w tour.first < ring_of n) s.1 r.0

  pub two-values-at-least : (w : World) → IsSettledOn net w → 1 < ring_of net
  two-values-at-least w s = subst (λ n. 1 < ring_of n) s.1 (several-values w.net s.0.range.network)

  -- the head's move, by the special machine's value
  pub head-move-is : (w : World) (e : Event) → IsSettledOn net w → is_damage w e ≡ false
      → head_move w e ≡ (if machine_value (step w e) tour.first == machine_value w tour.first then 0 else 1)
  head-move-is w e s d =
      ap (λ x. if x == head_value w then 0 else 1) (head-is (step w e) (settled-event b net w e s d).1)
      ∙ ap (λ x. if machine_value (step w e) tour.first == x then 0 else 1) (head-is w s.1)

  run-legs : (w : World) (e : Event) → IsSettledOn net w → is_damage w e ≡ false
      → Run (ring_of net) (if machine_value (step w e) tour.first == machine_value w tour.first then 0 else 1) (values_of w whole) (values_of (step w e) whole)
  run-legs w e s d =
      let q = ring_of net in
      let x = machine_value w tour.first in
      let y = machine_value (step w e) tour.first in
      let new = step w e in
      let copies : Run q 0 (x ∷ followers w) (x ∷ followers new) = b.parallel q x (followers w) (followers new) (followers-event w e s d) in
      elim (special-event w e s d) [
        | inl k ↦ (let zero : (if y == x then 0 else 1) ≡ 0 = ap (λ c. if c then 0 else 1) (eq-eqb y x k) in
            subst (λ n. Run q n (x ∷ followers w) (y ∷ followers new)) (sym zero) (subst (λ h. Run q 0 (x ∷ followers w) (h ∷ followers new)) (sym k) copies))
        | inr m ↦ (let ne : y ≢ x = λ k. head-goes-on q x (two-values-at-least w s) (head-in w s) (sym m.0 ∙ k) in
            let one : (if y == x then 0 else 1) ≡ 1 = ap (λ c. if c then 0 else 1) (ne_eqb y x ne) in
            let end : last_of x (followers new) ≡ x = last-value new tour.first tour.others ∙ sym (first-sees new) ∙ m.1 in
            let move : Run q 1 (x ∷ followers new) (root_moved x q ∷ followers new) = b.step_run q 1 (x ∷ followers new) (root_moved x q ∷ followers new) (Moves (Moved end)) in
            let both : Run q 1 (x ∷ followers w) (root_moved x q ∷ followers new) = b.ring_join q 0 1 (x ∷ followers w) (x ∷ followers new) (root_moved x q ∷ followers new) copies move in
            subst (λ n. Run q n (x ∷ followers w) (y ∷ followers new)) (sym one) (subst (λ h. Run q 1 (x ∷ followers w) (h ∷ followers new)) (sym m.0) both))
      ]

  pub ring-event : (w : World) (e : Event) → IsSettledOn net w → is_damage w e ≡ false → Run (ring_of net) (head_move w e) (token_ring w) (token_ring (step w e))
  ring-event w e s d =
      let z = settled-event b net w e s d in
      let r = run-legs w e s d in
      let r1 = subst (λ n. Run (ring_of net) n (values_of w whole) (values_of (step w e) whole)) (sym (head-move-is w e s d)) r in
      let r2 = subst (λ xs. Run (ring_of net) (head_move w e) xs (values_of (step w e) whole)) (sym (ring-is w s.1)) r1 in
      subst (λ ys. Run (ring_of net) (head_move w e) (token_ring w) ys) (sym (ring-is (step w e) z.1)) r2

  pub ring-run : (w : World) (es : List Event) → IsSettledOn net w → IsUndamaged w es → Run (ring_of net) (head_moves w es) (token_ring w) (token_ring (run w es))
  ring-run w [] s u = Done
  ring-run w (e ∷ es) s u =
      let d = (undamaged-front w e es u).0 in
      b.ring_join (ring_of net) (head_move w e) (head_moves (step w e) es) (token_ring w) (token_ring (step w e)) (token_ring (run w (e ∷ es)))
      (ring-event w e s d) (ring-run (step w e) es (settled-event b net w e s d) (undamaged-front w e es u).1)

  -- ---- good

  pub good-run : (w : World) (es : List Event) → IsSettledOn net w → IsUndamaged w es → IsTokenRingGood w → IsTokenRingGood (run w es)
  good-run w es s u g =
      let z = settled-run b net w es s u in
      let g1 : IsGood (ring_of net) (token_ring w) = subst (λ n. IsGood (ring_of n) (token_ring w)) s.1 g in
      let g2 = b.ring_stays (ring_of net) (head_moves w es) (token_ring w) (token_ring (run w es)) (ring-run w es s u) g1 in
      subst (λ n. IsGood (ring_of n) (token_ring (run w es))) (sym z.1) g2

  -- three values a leg
  pub values-count : (w : World) (ls : List Leg) → length (values_of w ls) ≡ 3 * length ls
  values-count w [] = refl
  values-count w (l ∷ ls) = omega (arith, values-count w ls)

  pub ring-in : (w : World) → IsSettledOn net w → IsRing (ring_of net) (token_ring w)
  ring-in w s =
      let below = values-in b.back b.nodes b.near b.view w s.0.range whole (λ l i. subst (λ n. IsTreeLeg n l) (sym s.1) (tour.tree l i)) in
      let below' : AllByRecursion (λ y. y < ring_of net) (values_of w whole) = subst (λ n. AllByRecursion (λ y. y < ring_of n) (values_of w whole)) s.1 below in
      subst (λ xs. IsRing (ring_of net) xs) (sym (ring-is w s.1)) (omega arith, below')

  -- the ring is good after as many moves of the head as it has values
  pub good-after_moves : (w : World) (es : List Event) → IsSettledOn net w → IsUndamaged w es → 6 * (net.nodes - 1) ≤ head_moves w es → IsTokenRingGood (run w es)
  good-after_moves w es s u many =
      let z = settled-run b net w es s u in
      let count : length (token_ring w) ≡ 6 * (net.nodes - 1) = ap length (ring-is w s.1) ∙ values-count w whole ∙ omega (arith, tour.count) in
      let g = b.ring_turns (ring_of net) (head_moves w es) (token_ring w) (token_ring (run w es)) (ring-run w es s u) (ring-in w s) (omega (arith, count)) (omega (arith, count)) in
      subst (λ n. IsGood (ring_of n) (token_ring (run w es))) (sym z.1) g

  -- what the special machine sees is in range too
  pub seen-in_range : (w : World) → IsSettledOn net w → seen_value w tour.first < ring_of net
  seen-in_range w s =
      subst (λ n. seen_value w tour.first < ring_of n) s.1
      (seen-in b.back b.nodes b.near b.view w tour.first s.0.range (subst (λ n. IsTreeLeg n tour.first) (sym s.1) (tour.tree tour.first (inl refl))))
