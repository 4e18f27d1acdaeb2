-- On a good token ring each machine moves in any 8(n - 1) sweeps. A machine without the head's
-- value takes it, after 4 sweeps for each leg from the head. If it has the head's value, so have
-- all before it: then the head moves within 4 sweeps for each leg from the machine on, and then the
-- machine no longer has the head's value.
use Rattle.std.proofs.Common.{◌≡◌, ◌≢◌, ℕ, zero, suc, ◌+◌, ◌*◌, ◌-◌, ◌<◌, ◌≤◌, inl, inr, List, [], ◌∷◌, ◌++◌, length, refl, sym, ◌∙◌, ap, subst, arith}
use Rattle.std.specs.List.{AllByRecursion}
use Rattle.std.proofs.lemmas.Bool.{cases_eq}
use Rattle.topology.specs.Network.{Network, ring_of, IsAcceptedNetwork}
use Rattle.k_state.specs.Ring.{IsFrontThen, IsGood, IsRing, HasFront}
use Rattle.run_model.specs.World.{World}
use Rattle.run_model.specs.Step.{step}
use Rattle.run_model.specs.Run.{run, IsUndamaged}
use Rattle.run_model.specs.Sweep.{Sweeps}
use Rattle.run_model.specs.declared.event.Event.{Event}
use Rattle.run_model.proofs.Along.{undamaged-front, undamaged-one}
use Rattle.convergence.specs.Ring.{Leg, token_ring, IsTokenRingGood}
use Rattle.convergence.specs.Legs.{IsTour, IsTreeLeg, IsAmong, machine_value, staged_value, copied_value}
use Rattle.convergence.specs.RingService.{MachineMove}
use Rattle.convergence.specs.Moves.{head_moves}
use Rattle.convergence.specs.RingBelow.{Below}
use Rattle.convergence.proofs.RingPlaces.{values_of}
use Rattle.convergence.proofs.LegPlaces.{leg_at, among-at, place-of}
use Rattle.convergence.proofs.Privileges.{values-in}
use Rattle.convergence.proofs.Settled.{IsSettledOn, settled-event, settled-run}
use Rattle.convergence.proofs.RingEvents.{head-is, ring-is, ring-in, head-in, good-run, two-values-at-least, whole}
use Rattle.convergence.proofs.Known.{IsKnown, IsWithin, leg, old, head-run, machines-fall}
use Rattle.convergence.proofs.HeadMoves.{parted, other-number, known-in, moves-ahead}
use Rattle.convergence.proofs.Visits.{all-at_move, head-leaves, leg-of, head-stands, first-move, machine-among}

-- an event of a run changes the value of a leg's machine
pub record Moment (w : World) (es : List Event) (l : Leg) : Type 0 where
  pub first : List Event
  pub event : Event
  pub rest : List Event
  pub parts : es ≡ first ++ event ∷ rest
  pub moves : machine_value (step (run w first) event) l ≢ machine_value (run w first) l

changed-at : (w : World) (es : List Event) (l : Leg) → machine_value (run w es) l ≢ machine_value w l → Moment w es l
changed-at w [] l ne = absurd (ne refl)
changed-at w (e ∷ es) l ne = elim (cases_eq (machine_value (step w e) l) (machine_value w l)) [
  | inl same ↦ (let r = changed-at (step w e) es l (λ k. ne (k ∙ same)) in
      record { first = e ∷ r.first; event = r.event; rest = r.rest; parts = ap (λ xs. e ∷ xs) r.parts; moves = r.moves })
  | inr other ↦ record { first = []; event = e; rest = es; parts = refl; moves = other }
]

append-assoc : (xs ys zs : List Event) → (xs ++ ys) ++ zs ≡ xs ++ (ys ++ zs)
append-assoc [] ys zs = refl
append-assoc (x ∷ xs) ys zs = ap (λ l. x ∷ l) (append-assoc xs ys zs)

early : (w : World) (xs ys : List Event) (l : Leg) → Moment w xs l → Moment w (xs ++ ys) l
early w xs ys l m = record {
  first = m.first;
  event = m.event;
  rest = m.rest ++ ys;
  parts = ap (λ z. z ++ ys) m.parts ∙ append-assoc m.first (m.event ∷ m.rest) ys;
  moves = m.moves;
}

late : (w : World) (xs ys : List Event) (l : Leg) → Moment (run w xs) ys l → Moment w (xs ++ ys) l
late w [] ys l m = m
late w (e ∷ xs) ys l m =
    let r = late (step w e) xs ys l m in
    record { first = e ∷ r.first; event = r.event; rest = r.rest; parts = ap (λ z. e ∷ z) r.parts; moves = r.moves }

other-list : (w : World) (xs ys : List Event) (l : Leg) → xs ≡ ys → Moment w ys l → Moment w xs l
other-list w xs ys l e m = subst (λ z. Moment w z l) (sym e) m

equals : (f : ℕ → ℕ) (x y : ℕ) → x ≡ y → f x ≤ f y
equals f x y e = subst (λ z. f x ≤ f z) e (omega arith)

-- ---- if a machine has the value a, and the a's come first, all before it are a

machine-at : (P : ℕ → Type 0) (w : World) (p : Leg) (ls : List Leg) (k : ℕ) → k ≤ length ls → AllByRecursion P (values_of w (p ∷ ls)) → P (machine_value w (leg_at p ls k))
machine-at P w p ls k h all = machine-among P w (p ∷ ls) (leg_at p ls k) all (among-at p ls k h)

-- the three values of the leg at place i, and that of the next machine
abbrev AreAll : ℕ → World → Leg → List Leg → ℕ → Type 0
AreAll a w p ls i = (machine_value w (leg_at p ls i) ≡ a) × (staged_value w (leg_at p ls i) ≡ a) × (copied_value w (leg_at p ls i) ≡ a)
    × (machine_value w (leg_at p ls (suc i)) ≡ a)

-- the first of them is
next-at : (a : ℕ) (w : World) (q : Leg) (ls : List Leg) (k : ℕ) → k ≤ length ls → IsFrontThen (λ y. y ≡ a) (λ y. y ≢ a) (values_of w (q ∷ ls))
    → machine_value w (leg_at q ls k) ≡ a → machine_value w q ≡ a
next-at a w q ls k h (inl g) here = g.0
next-at a w q ls k h (inr g) here = absurd (machine-at (λ y. y ≢ a) w q ls k h g here)

front-at : (a : ℕ) (w : World) (p : Leg) (ls : List Leg) (k : ℕ) → k ≤ length ls → IsFrontThen (λ y. y ≡ a) (λ y. y ≢ a) (values_of w (p ∷ ls))
    → machine_value w (leg_at p ls k) ≡ a → (i : ℕ) → i < k → AreAll a w p ls i
front-at a w p [] k h f here i l = absurd (omega (arith, h, l))
front-at a w p (q ∷ ls) zero h f here i l = absurd (omega (arith, l))
front-at a w p (q ∷ ls) (suc k) h (inr f) here i l = absurd (machine-at (λ y. y ≢ a) w p (q ∷ ls) (suc k) h f here)
front-at a w p (q ∷ ls) (suc k) h (inl (m, inr f)) here i l = absurd (machine-at (λ y. y ≢ a) w q ls k (omega (arith, h)) f.1.1 here)
front-at a w p (q ∷ ls) (suc k) h (inl (m, inl (s, inr f))) here i l = absurd (machine-at (λ y. y ≢ a) w q ls k (omega (arith, h)) f.1 here)
front-at a w p (q ∷ ls) (suc k) h (inl (m, inl (s, inl (c, f)))) here zero l = (m, s, c, next-at a w q ls k (omega (arith, h)) f here)
front-at a w p (q ∷ ls) (suc k) h (inl (m, inl (s, inl (c, f)))) here (suc i) l = front-at a w q ls k (omega (arith, h)) f here i (omega (arith, l))

module _ (b : Below) (net : Network) (tour : IsTour net) where
  abbrev place : ℕ → Leg
  place k = leg_at tour.first tour.others k

  abbrev count : ℕ
  count = length tour.others

  value-in : (w : World) (k : ℕ) → IsSettledOn net w → k ≤ count → machine_value w (place k) < ring_of net
  value-in w k s h =
      let r = values-in b.back b.nodes b.near b.view w s.0.range (whole b net tour) (λ l i. tree-on l i) in
      let r' : AllByRecursion (λ y. y < ring_of net) (values_of w (whole b net tour)) = subst (λ n. AllByRecursion (λ y. y < ring_of n) (values_of w (whole b net tour))) s.1 r in
      machine-at (λ y. y < ring_of net) w tour.first tour.others k h r'
    where
      tree-on : (l : Leg) → IsAmong l (whole b net tour) → IsTreeLeg w.net l
      tree-on l i = subst (λ n. IsTreeLeg n l) (sym s.1) (tour.tree l i)

  -- if the head moves, a machine without its value changes
  catches-up : (w : World) (es : List Event) (k : ℕ) → IsSettledOn net w → IsUndamaged w es → IsTokenRingGood w → k ≤ count
      → machine_value w (place k) ≢ machine_value w tour.first → 0 < head_moves w es → Moment w es (place k)
  catches-up w es k s u g h ne more =
      let m = first-move w es more in
      let p = parted b w es m.first (m.event ∷ m.rest) m.parts u in
      let w2 = run w m.first in
      let s2 = settled-run b net w m.first s p.early in
      let g2 = good-run b net tour w m.first s p.early g in
      let all : machine_value w2 (place k) ≡ machine_value w2 tour.first =
      all-at_move b net tour w2 m.event s2 (undamaged-front w2 m.event m.rest p.late).0 g2 m.moves (place k) (among-at tour.first tour.others k h) in
      let stands : machine_value w2 tour.first ≡ machine_value w tour.first =
      sym (head-is b net tour w2 s2.1) ∙ head-stands w m.first m.none ∙ head-is b net tour w s.1 in
      other-list w es (m.first ++ m.event ∷ m.rest) (place k) m.parts
      (early w m.first (m.event ∷ m.rest) (place k) (changed-at w m.first (place k) (λ same. ne (sym same ∙ all ∙ stands))))

  -- and within 4 sweeps for each leg before it, it changes in any case
  after-head : (w : World) (es : List Event) (k : ℕ) → IsSettledOn net w → IsUndamaged w es → IsTokenRingGood w → k ≤ count
      → machine_value w (place k) ≢ machine_value w tour.first → Sweeps w (4 * k) es → Moment w es (place k)
  after-head w es k s u g h ne sweeps = elim (cases_eq (head_moves w es) 0) [
    | inr more ↦ catches-up w es k s u g h ne (omega (arith, more))
    | inl none ↦ changed-at w es (place k) (λ same. ne (sym same ∙ taken none))
  ]
    where
      taken : head_moves w es ≡ 0 → machine_value (run w es) (place k) ≡ machine_value w tour.first
      taken none =
          let two = two-values-at-least b net tour w s in
          let small : 0 < ring_of net = omega (arith, two) in
          let start = machine_value w tour.first in
          let zero-age = b.age_of_start (ring_of net) start (head-in b net tour w s) in
          let within : IsWithin b net tour start 0 small w es = (s, u, omega (arith, none, zero-age)) in
          let known = known-in b net tour start 0 small k w es within h sweeps in
          let now = head-run b net tour start 0 small w es within in
          let most = machines-fall b net tour start 0 small (run w es) k known k (omega arith) in
          b.ages_differ (ring_of net) start (machine_value (run w es) (place k)) start (value-in (run w es) k (settled-run b net w es s u) h) (head-in b net tour w s)
          (omega (arith, most, now, none, zero-age))

  -- if a machine has the head's value, all values before it are the head's
  front-known : (w : World) (k : ℕ) (small : 0 < ring_of net) → IsSettledOn net w → IsTokenRingGood w → k ≤ count → machine_value w (place k) ≡ machine_value w tour.first
      → IsKnown (leg b net tour (machine_value w tour.first) 0 small) (old b net tour (machine_value w tour.first) 0 small) w k
  front-known w k small s g h same =
      let x = machine_value w tour.first in
      let rest = staged_value w tour.first ∷ copied_value w tour.first ∷ values_of w tour.others in
      let g1 : IsGood (ring_of net) (x ∷ rest) = subst (λ xs. IsGood (ring_of net) xs) (ring-is b net tour w s.1) (subst (λ n. IsGood (ring_of n) (token_ring w)) s.1 g) in
      let ring = subst (λ xs. IsRing (ring_of net) xs) (ring-is b net tour w s.1) (ring-in b net tour w s) in
      let front : HasFront x (x ∷ rest) = b.good_front (ring_of net) (x ∷ rest) (two-values-at-least b net tour w s) ring g1 in
      let all = front-at x w tour.first tour.others k h front.1 same in
      let older = old b net tour x 0 small in
      record {
        staged = λ i l. equals older (staged_value w (place i)) (machine_value w (place i)) ((all i l).1 ∙ sym (all i l).0);
        copied = λ i l. equals older (copied_value w (place i)) (staged_value w (place i)) ((all i l).2 ∙ sym (all i l).1);
        next = λ i l. equals older (machine_value w (place (suc i))) (copied_value w (place i)) ((all i l).3 ∙ sym (all i l).2);
      }

  -- If a machine has the head's value, the head moves within 4 sweeps for each leg from the machine
  -- on; then the machine no longer has the head's value.
  with-head : (w : World) (xs ys : List Event) (k : ℕ) → IsSettledOn net w → IsUndamaged w xs → IsUndamaged (run w xs) ys → IsTokenRingGood w → k ≤ count
      → machine_value w (place k) ≡ machine_value w tour.first → Sweeps w ((4 * (count - k) + 3) + 1) xs → Sweeps (run w xs) (4 * k) ys → Moment w (xs ++ ys) (place k)
  with-head w xs ys k s u v g h same sweeps more =
      let two = two-values-at-least b net tour w s in
      let small : 0 < ring_of net = omega (arith, two) in
      let one = moves-ahead b net tour k (count - k) w xs small s u (omega (arith, h)) (front-known w k small s g h same) sweeps in
      let m = first-move w xs one in
      let p = parted b w xs m.first (m.event ∷ m.rest) m.parts u in
      let w1 = run w m.first in
      let s1 = settled-run b net w m.first s p.early in
      let d = (undamaged-front w1 m.event m.rest p.late).0 in
      let w2 = step w1 m.event in
      let s2 = settled-event b net w1 m.event s1 d in
      let u2 = (undamaged-front w1 m.event m.rest p.late).1 in
      let g1 = good-run b net tour w m.first s p.early g in
      let g2 = good-run b net tour w1 (m.event ∷ []) s1 (undamaged-one w1 m.event d) g1 in
      let stands : machine_value w1 tour.first ≡ machine_value w tour.first =
      sym (head-is b net tour w1 s1.1) ∙ head-stands w m.first m.none ∙ head-is b net tour w s.1 in
      let leaves : machine_value w2 tour.first ≢ machine_value w tour.first = λ e. head-leaves b net tour w1 m.event s1 d m.moves (e ∙ sym stands) in
      let in-xs : Moment w (m.first ++ m.event ∷ m.rest) (place k) → Moment w (xs ++ ys) (place k) =
      λ r. early w xs ys (place k) (other-list w xs (m.first ++ m.event ∷ m.rest) (place k) m.parts r) in
      let in-rest : Moment w2 m.rest (place k) → Moment w (xs ++ ys) (place k) =
      λ r. in-xs (late w m.first (m.event ∷ m.rest) (place k) (late w1 (m.event ∷ []) m.rest (place k) r)) in
      elim (cases_eq (machine_value w1 (place k)) (machine_value w (place k))) [
        | inr other ↦ in-xs (early w m.first (m.event ∷ m.rest) (place k) (changed-at w m.first (place k) other))
        | inl still ↦ elim (cases_eq (machine_value w2 (place k)) (machine_value w1 (place k))) [
          | inr other ↦ in-xs (late w m.first (m.event ∷ m.rest) (place k)
              (early w1 (m.event ∷ []) m.rest (place k) (changed-at w1 (m.event ∷ []) (place k) other)))
          | inl again ↦ (let at : machine_value w2 (place k) ≡ machine_value w tour.first = again ∙ still ∙ same in
              let ne : machine_value w2 (place k) ≢ machine_value w2 tour.first = λ e. leaves (sym e ∙ at) in
              elim (cases_eq (head_moves w2 m.rest) 0) [
                | inr twice ↦ in-rest (catches-up w2 m.rest k s2 u2 g2 h ne (omega (arith, twice)))
                | inl none ↦ elim (cases_eq (machine_value (run w2 m.rest) (place k)) (machine_value w2 (place k))) [
                  | inr other ↦ in-rest (changed-at w2 m.rest (place k) other)
                  | inl kept ↦ (let s3 = settled-run b net w2 m.rest s2 u2 in
                      let head : machine_value (run w2 m.rest) tour.first ≡ machine_value w2 tour.first =
                      sym (head-is b net tour (run w2 m.rest) s3.1) ∙ head-stands w2 m.rest none ∙ head-is b net tour w2 s2.1 in
                      let ne3 : machine_value (run w2 m.rest) (place k) ≢ machine_value (run w2 m.rest) tour.first = λ e. ne (sym kept ∙ e ∙ head) in
                      let ne4 : machine_value (run w xs) (place k) ≢ machine_value (run w xs) tour.first =
                      subst (λ x. machine_value x (place k) ≢ machine_value x tour.first) (sym p.leads) ne3 in
                      late w xs ys (place k)
                      (after-head (run w xs) ys k (settled-run b net w xs s u) v (good-run b net tour w xs s u g) h ne4 more))
                ]
              ])
        ]
      ]

  moves-at : (w : World) (es : List Event) (k : ℕ) → IsSettledOn net w → IsUndamaged w es → IsTokenRingGood w → k ≤ count
      → Sweeps w (4 * (suc count)) es → Moment w es (place k)
  moves-at w es k s u g h sweeps = elim (cases_eq (machine_value w (place k)) (machine_value w tour.first)) [
    | inr ne ↦ after-head w es k s u g h ne (b.fewer w (4 * k) (4 * (suc count)) es (omega (arith, h)) sweeps)
    | inl same ↦ (let x = b.split w ((4 * (count - k) + 3) + 1) (4 * k) es
        (other-number w (4 * suc count) (((4 * (count - k) + 3) + 1) + 4 * k) es (omega (arith, h)) sweeps) in
        let p = parted b w es x.0 x.1 x.2 u in
        other-list w es (x.0 ++ x.1) (place k) x.2 (with-head w x.0 x.1 k s p.early p.late g h same x.3 x.4))
  ]

  -- a machine of each node moves in any 8(n - 1) sweeps
  pub moves-in_turn : (w : World) (es : List Event) (v : ℕ) → IsSettledOn net w → IsUndamaged w es → IsTokenRingGood w → v < net.nodes
      → Sweeps w (8 * (net.nodes - 1)) es → MachineMove w es v
  moves-in_turn w es v s u g h sweeps =
      let l = leg-of b net tour v (subst IsAcceptedNetwork s.1 s.0.range.network) h in
      let at = place-of l.0 tour.first tour.others l.1 in
      let m = moves-at w es at.0 s u g at.1 (other-number w (8 * (net.nodes - 1)) (4 * suc count) es (omega (arith, tour.count)) sweeps) in
      let here : (place at.0).here ≡ v = ap (λ (x : Leg). x.here) (sym at.2) ∙ l.2 in
      record {
        machine = (place at.0).from;
        before = m.first;
        event = m.event;
        after = m.rest;
        parts = m.parts;
        moves = λ e. m.moves (subst (λ x. ((step (run w m.first) m.event).node x).value (place at.0).from ≡ ((run w m.first).node x).value (place at.0).from) (sym here) e);
      }
