-- Between two moves of the head of a good token ring each machine takes the head's new value, and
-- it is privileged when it does.
use Rattle.std.proofs.Common.{◌≡◌, ◌≢◌, ℕ, ◌*◌, ◌-◌, ◌<◌, ◌≤◌, inl, inr, true, false, ◌==◌, List, [], ◌∷◌, ◌++◌, refl, sym, ◌∙◌, ap, subst, arith}
use Rattle.std.specs.Prelude.{if◌then◌else◌}
use Rattle.std.specs.List.{AllByRecursion}
use Rattle.std.proofs.lemmas.Bool.{cases_Bool, cases_eq, eqb-true, eq-eqb, or_left, or_right, or_cases, or_from, false≢true}
use Rattle.std.proofs.lemmas.Bool.Decides.{nat_tests}
use Rattle.topology.specs.Network.{Network, ring_of, IsAcceptedNetwork}
use Rattle.k_state.specs.Ring.{IsFrontThen, IsGood, IsRing, HasFront, last_of}
use Rattle.tree_convergence.specs.euler_ring.Cycle.{is_named, special}
use Rattle.tree_convergence.specs.euler_ring.Laws.{true_neighbours}
use Rattle.run_model.specs.World.{World}
use Rattle.run_model.specs.Step.{step}
use Rattle.run_model.specs.Run.{run, is_damage, has_damage, IsUndamaged}
use Rattle.run_model.specs.Sweep.{Sweeps}
use Rattle.run_model.specs.Privilege.{is_privileged}
use Rattle.run_model.specs.Visited.{is_privileged_once}
use Rattle.run_model.specs.declared.event.Event.{Event}
use Rattle.run_model.proofs.Along.{undamaged-front, undamaged-one}
use Rattle.convergence.specs.Ring.{Leg, token_ring, IsTokenRingGood}
use Rattle.convergence.specs.Legs.{IsTour, IsTreeLeg, IsAmong, machine_value, staged_value, copied_value}
use Rattle.convergence.specs.Moves.{head_value, head_move, head_moves}
use Rattle.convergence.specs.RingBelow.{Below}
use Rattle.convergence.proofs.RingPlaces.{values_of, last-value}
use Rattle.convergence.proofs.Privileges.{leg-privileged}
use Rattle.convergence.proofs.TourLegs.{none-special}
use Rattle.convergence.proofs.Settled.{IsSettledOn, settled-event, settled-run}
use Rattle.convergence.proofs.LegEvents.{tree-leg-on, machine-event}
use Rattle.convergence.proofs.RingEvents.{special-sees, special-on, head-is, first-sees, ring-is, ring-in, good-run, two-values-at-least, whole}
use Rattle.convergence.proofs.HeadMoves.{parted, other-number, moves-in_rounds}

-- ---- moments of a run at which a node is privileged

once-first : (w : World) (es : List Event) (v : ℕ) → is_privileged w v ≡ true → is_privileged_once w es v ≡ true
once-first w [] v h = h
once-first w (e ∷ es) v h = or_left (is_privileged w v) (is_privileged_once (step w e) es v) h

once-early : (w : World) (first rest : List Event) (v : ℕ) → is_privileged_once w first v ≡ true → is_privileged_once w (first ++ rest) v ≡ true
once-early w [] rest v h = once-first w rest v h
once-early w (e ∷ first) rest v h = elim (or_cases (is_privileged w v) (is_privileged_once (step w e) first v) h) [
  | inl now ↦ or_left (is_privileged w v) (is_privileged_once (step w e) (first ++ rest) v) now
  | inr later ↦ or_right (is_privileged w v) (is_privileged_once (step w e) (first ++ rest) v) (once-early (step w e) first rest v later)
]

once-late : (w : World) (first rest : List Event) (v : ℕ) → is_privileged_once (run w first) rest v ≡ true → is_privileged_once w (first ++ rest) v ≡ true
once-late w [] rest v h = h
once-late w (e ∷ first) rest v h = or_right (is_privileged w v) (is_privileged_once (step w e) (first ++ rest) v) (once-late (step w e) first rest v h)

pub undamaged-from : (w : World) (e : Event) (es : List Event) → is_damage w e ≡ false → IsUndamaged (step w e) es → IsUndamaged w (e ∷ es)
undamaged-from w e es d u = or_from (is_damage w e) (has_damage (step w e) es) d u

-- ---- the first move of the head

one-at_most : (x y : ℕ) → ◌≤◌ (if x == y then 0 else 1) 1
one-at_most x y = grind (arith, nat_tests)

same-head : (x y : ℕ) → ◌≡◌ {A = ℕ} (if x == y then 0 else 1) 0 → x ≡ y
same-head x y h = grind (arith, nat_tests)

pub head-stands : (w : World) (es : List Event) → head_moves w es ≡ 0 → head_value (run w es) ≡ head_value w
head-stands w [] z = refl
head-stands w (e ∷ es) z = head-stands (step w e) es (omega (arith, z)) ∙ same-head (head_value (step w e)) (head_value w) (omega (arith, z))

-- if the head moves, some event moves it for the first time
pub record FirstMove (w : World) (es : List Event) : Type 0 where
  pub first : List Event
  pub event : Event
  pub rest : List Event
  pub parts : es ≡ first ++ event ∷ rest
  pub none : head_moves w first ≡ 0
  pub moves : head_move (run w first) event ≢ 0

pub first-move : (w : World) (es : List Event) → 0 < head_moves w es → FirstMove w es
first-move w [] h = absurd (omega (arith, h))
first-move w (e ∷ es) h = elim (cases_eq (head_move w e) 0) [
  | inl z ↦ (let r = first-move (step w e) es (omega (arith, h, z)) in record {
    first = e ∷ r.first;
    event = r.event;
    rest = r.rest;
    parts = ap (λ l. e ∷ l) r.parts;
    none = omega (arith, z, r.none);
    moves = r.moves;
  })
  | inr ne ↦ record { first = []; event = e; rest = es; parts = refl; none = refl; moves = ne }
]

-- ---- if the a's come first and the last value is a, all are

last-is_not : (a x : ℕ) (xs : List ℕ) → AllByRecursion (λ y. y ≢ a) (x ∷ xs) → last_of x xs ≢ a
last-is_not a x [] all = all.0
last-is_not a x (y ∷ ys) all = last-is_not a y ys all.1

all-are : (a x : ℕ) (xs : List ℕ) → IsFrontThen (λ y. y ≡ a) (λ y. y ≢ a) (x ∷ xs) → last_of x xs ≡ a → AllByRecursion (λ y. y ≡ a) (x ∷ xs)
all-are a x [] (inl f) h = (f.0, tt)
all-are a x (y ∷ ys) (inl f) h = (f.0, all-are a y ys f.1 h)
all-are a x xs (inr f) h = absurd (last-is_not a x xs f h)

pub machine-among : (P : ℕ → Type 0) (w : World) (ls : List Leg) (l : Leg) → AllByRecursion P (values_of w ls) → IsAmong l ls → P (machine_value w l)
machine-among P w [] l all i = absurd i
machine-among P w (k ∷ ks) l all (inl e) = subst (λ x. P (machine_value w x)) (sym e) all.0
machine-among P w (k ∷ ks) l all (inr i) = machine-among P w ks l all.1.1.1 i

module _ (b : Below) (net : Network) (tour : IsTour net) where
  -- a machine whose value changes is privileged before it does
  changed-once : (w : World) (es : List Event) (l : Leg) → IsSettledOn net w → IsUndamaged w es → IsTreeLeg net l → machine_value (run w es) l ≢ machine_value w l
      → is_privileged_once w es l.here ≡ true
  changed-once w [] l s u t ne = absurd (ne refl)
  changed-once w (e ∷ es) l s u t ne =
      let d = (undamaged-front w e es u).0 in
      elim (machine-event b net w e l s d t) [
        | inl same ↦ or_right (is_privileged w l.here) (is_privileged_once (step w e) es l.here)
            (changed-once (step w e) es l (settled-event b net w e s d) (undamaged-front w e es u).1 t (λ k. ne (k ∙ same)))
        | inr m ↦ or_left (is_privileged w l.here) (is_privileged_once (step w e) es l.here)
            (leg-privileged b.back b.nodes b.near b.view w l s.0.range.network s.0.tree (tree-leg-on net w l s.1 t) m.0)
      ]

  -- when the head moves, all machines have its value
  pub all-at_move : (w : World) (e : Event) → IsSettledOn net w → is_damage w e ≡ false → IsTokenRingGood w → head_move w e ≢ 0
      → (l : Leg) → IsAmong l (whole b net tour) → machine_value w l ≡ machine_value w tour.first
  all-at_move w e s d g ne l i =
      let x = machine_value w tour.first in
      let rest = staged_value w tour.first ∷ copied_value w tour.first ∷ values_of w tour.others in
      elim (machine-event b net w e tour.first s d (tour.tree tour.first (inl refl))) [
        | inl k ↦ absurd (ne (still k))
        | inr m ↦ (let sees = special-sees w tour.first (special-on net w tour.first true s.1 tour.first_special) m.0 in
            let last : last_of x rest ≡ x = last-value w tour.first tour.others ∙ sym (first-sees b net tour w) ∙ sym sees in
            let g1 : IsGood (ring_of net) (x ∷ rest) = subst (λ xs. IsGood (ring_of net) xs) (ring-is b net tour w s.1) (subst (λ n. IsGood (ring_of n) (token_ring w)) s.1 g) in
            let ring = subst (λ xs. IsRing (ring_of net) xs) (ring-is b net tour w s.1) (ring-in b net tour w s) in
            let front : HasFront x (x ∷ rest) = b.good_front (ring_of net) (x ∷ rest) (two-values-at-least b net tour w s) ring g1 in
            machine-among (λ y. y ≡ x) w (whole b net tour) l (all-are x x rest front.1 last) i)
      ]
    where
      still : machine_value (step w e) tour.first ≡ machine_value w tour.first → head_move w e ≡ 0
      still k =
          let same : head_value (step w e) ≡ head_value w = head-is b net tour (step w e) (settled-event b net w e s d).1 ∙ k ∙ sym (head-is b net tour w s.1) in
          ap (λ c. if c then 0 else 1) (eq-eqb (head_value (step w e)) (head_value w) same)

  -- and after the move the head has a different value
  pub head-leaves : (w : World) (e : Event) → IsSettledOn net w → is_damage w e ≡ false → head_move w e ≢ 0 → machine_value (step w e) tour.first ≢ machine_value w tour.first
  head-leaves w e s d ne k =
      let same : head_value (step w e) ≡ head_value w = head-is b net tour (step w e) (settled-event b net w e s d).1 ∙ k ∙ sym (head-is b net tour w s.1) in
      ne (ap (λ c. if c then 0 else 1) (eq-eqb (head_value (step w e)) (head_value w) same))

  -- from one move of the head to the next, each machine is privileged
  between : (w : World) (e : Event) (es : List Event) (l : Leg) → IsSettledOn net w → IsUndamaged w (e ∷ es) → IsTokenRingGood w → IsAmong l (whole b net tour)
      → head_move w e ≢ 0 → 0 < head_moves (step w e) es → is_privileged_once w (e ∷ es) l.here ≡ true
  between w e es l s u g i ne more =
      let d = (undamaged-front w e es u).0 in
      let s1 = settled-event b net w e s d in
      let u1 = (undamaged-front w e es u).1 in
      let g1 = good-run b net tour w (e ∷ []) s (undamaged-one w e d) g in
      let m = first-move (step w e) es more in
      let p = parted b (step w e) es m.first (m.event ∷ m.rest) m.parts u1 in
      let w2 = run (step w e) m.first in
      let s2 = settled-run b net (step w e) m.first s1 p.early in
      let g2 = good-run b net tour (step w e) m.first s1 p.early g1 in
      let later : machine_value w2 l ≡ machine_value w2 tour.first = all-at_move w2 m.event s2 (undamaged-front w2 m.event m.rest p.late).0 g2 m.moves l i in
      let now : machine_value w l ≡ machine_value w tour.first = all-at_move w e s d g ne l i in
      let stands : machine_value w2 tour.first ≡ machine_value (step w e) tour.first =
      sym (head-is b net tour w2 s2.1) ∙ head-stands (step w e) m.first m.none ∙ head-is b net tour (step w e) s1.1 in
      let changed : machine_value w2 l ≢ machine_value w l = λ k. head-leaves w e s d ne (sym stands ∙ sym later ∙ k ∙ now) in
      let fine : IsUndamaged w (e ∷ m.first) = undamaged-from w e m.first d p.early in
      let once = changed-once w (e ∷ m.first) l s fine (tour.tree l i) changed in
      subst (λ xs. is_privileged_once w (e ∷ xs) l.here ≡ true) (sym m.parts) (once-early w (e ∷ m.first) (m.event ∷ m.rest) l.here once)

  -- ---- each node has a leg

  first-at_root : tour.first.here ≡ net.root
  first-at_root = elim (cases_Bool (tour.first.here == net.root)) [
    | inl y ↦ eqb-true tour.first.here net.root y
    | inr n ↦ absurd (false≢true (sym (none-special (true_neighbours net tour.first.here) tour.first.from)
        ∙ ap (λ c. is_named (special c (true_neighbours net tour.first.here)) tour.first.from) (sym n) ∙ tour.first_special))
  ]

  pub leg-of : (v : ℕ) → IsAcceptedNetwork net → v < net.nodes → (l : Leg) × IsAmong l (whole b net tour) × (l.here ≡ v)
  leg-of v a h = elim (cases_eq v net.root) [
    | inl e ↦ (tour.first, inl refl, first-at_root ∙ sym e)
    | inr ne ↦ (let p = (b.known net a).parent v h ne in
        let r = tour.every v p.0 h ((b.tree_edges net v p.0 a).1 (inl p.1)) in
        (r.0, r.1, r.3))
  ]

  pub goes-round : (w : World) (es : List Event) (v : ℕ) → IsSettledOn net w → IsUndamaged w es → IsTokenRingGood w → v < net.nodes → 2 ≤ head_moves w es
      → is_privileged_once w es v ≡ true
  goes-round w es v s u g h two =
      let m = first-move w es (omega (arith, two)) in
      let p = parted b w es m.first (m.event ∷ m.rest) m.parts u in
      let w1 = run w m.first in
      let s1 = settled-run b net w m.first s p.early in
      let g1 = good-run b net tour w m.first s p.early g in
      let one = one-at_most (head_value (step w1 m.event)) (head_value w1) in
      let l = leg-of v (subst IsAcceptedNetwork s.1 s.0.range.network) h in
      let once = between w1 m.event m.rest l.0 s1 p.late g1 l.1 m.moves (omega (arith, two, p.moves, m.none, one)) in
      let at : is_privileged_once w1 (m.event ∷ m.rest) v ≡ true = subst (λ x. is_privileged_once w1 (m.event ∷ m.rest) x ≡ true) l.2 once in
      subst (λ xs. is_privileged_once w xs v ≡ true) (sym m.parts) (once-late w m.first (m.event ∷ m.rest) v at)

  pub visits : (w : World) (es : List Event) (v : ℕ) → IsSettledOn net w → IsUndamaged w es → IsTokenRingGood w → v < net.nodes → Sweeps w (16 * (net.nodes - 1)) es
      → is_privileged_once w es v ≡ true
  visits w es v s u g h sweeps =
      let round = 8 * (net.nodes - 1) in
      let two = moves-in_rounds b net tour 2 w es s u (other-number w (16 * (net.nodes - 1)) (2 * round) es (omega arith) sweeps) in
      goes-round w es v s u g h two
