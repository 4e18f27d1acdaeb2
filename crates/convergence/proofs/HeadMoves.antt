-- The head moves at least once in any 8(n - 1) sweeps, so the token ring is good after
-- 48(n - 1)(n - 1) sweeps. It is good even after 16(n - 1) sweeps: half of these make every value
-- of the ring known, and the others hold a move of the head.
use Rattle.std.proofs.Common.{◌≡◌, ◌≢◌, ℕ, zero, suc, ◌+◌, ◌*◌, ◌-◌, ◌<◌, ◌≤◌, inl, inr, true, List, [], ◌∷◌, ◌++◌, length, refl, sym, ◌∙◌, ap, subst, arith}
use Rattle.std.proofs.lemmas.Bool.{cases_eq, cases_lt}
use Rattle.topology.specs.Network.{Network, ring_of}
use Rattle.k_state.specs.Ring.{IsGood}
use Rattle.k_state.specs.Ages.{AgesFall, HasFallingAges}
use Rattle.run_model.specs.World.{World}
use Rattle.run_model.specs.Step.{step}
use Rattle.run_model.specs.Run.{run, IsUndamaged}
use Rattle.run_model.specs.Sweep.{is_full_tick, has_full_tick, IsSweep, Sweeps}
use Rattle.convergence.specs.Ring.{Leg, token_ring, IsTokenRingGood}
use Rattle.convergence.specs.Legs.{IsTour, machine_value, staged_value, copied_value, seen_value}
use Rattle.run_model.specs.declared.event.Event.{Event}
use Rattle.convergence.specs.Moves.{head_moves}
use Rattle.convergence.specs.RingBelow.{Below}
use Rattle.convergence.proofs.Settled.{IsSettledOn, settled-run}
use Rattle.convergence.proofs.RingEvents.{ring-is, ring-in, ring-run, good-run, good-after_moves, head-in, seen-in_range, two-values-at-least}
use Rattle.convergence.proofs.LegPlaces.{leg_at}
use Rattle.convergence.proofs.RingPlaces.{values_of}
use Rattle.run_model.proofs.Along.{kept, ticked}
use Rattle.convergence.proofs.Known.{IsKnown, IsCopied, IsWithin, IsEventWithin, within_course, leg, end, old, leg-tree, head-run, known-event, copied-stays, staged-in_two, copied-in_one, taken-in_one, special-ticks, last-copy}

pub moves-join : (w : World) (xs ys : List Event) → head_moves w (xs ++ ys) ≡ head_moves w xs + head_moves (run w xs) ys
moves-join w [] ys = omega arith
moves-join w (e ∷ xs) ys = omega (arith, moves-join (step w e) xs ys)

-- the number of sweeps may be written in another way
pub other-number : (w : World) (r s : ℕ) (es : List Event) → r ≡ s → Sweeps w r es → Sweeps w s es
other-number w r s es e h = subst (λ k. Sweeps w k es) e h

-- a list in two parts without damage has no damage in each part, and its moves are those of the
-- parts
pub record IsParted (w : World) (es first rest : List Event) : Type 0 where
  pub early : IsUndamaged w first
  pub late : IsUndamaged (run w first) rest
  pub moves : head_moves w es ≡ head_moves w first + head_moves (run w first) rest
  pub leads : run w es ≡ run (run w first) rest

module _ (b : Below) where
  pub parted : (w : World) (es first rest : List Event) → es ≡ first ++ rest → IsUndamaged w es → IsParted w es first rest
  parted w es first rest e u =
      let p = b.parts w first rest (subst (IsUndamaged w) e u) in
      record {
        early = p.0;
        late = p.1;
        moves = ap (head_moves w) e ∙ moves-join w first rest;
        leads = ap (run w) e ∙ b.join w first rest;
      }

  -- ---- the values of the legs, one after the other

  module _ (net : Network) (tour : IsTour net) (start bound : ℕ) (small : bound < ring_of net) where
    abbrev place : ℕ → Leg
    place = leg b net tour start bound small

    abbrev last : ℕ
    last = end b net tour start bound small

    abbrev since : ℕ → ℕ
    since = old b net tour start bound small

    abbrev Within : World → List Event → Type 0
    Within = IsWithin b net tour start bound small

    abbrev Known : World → ℕ → Type 0
    Known = IsKnown place since

    first-within : (w : World) (es first rest : List Event) → Within w es → IsParted w es first rest → Within w first
    first-within w es first rest (s, u, h) p = (s, p.early, omega (arith, h, p.moves))

    later-within : (w : World) (es first rest : List Event) → Within w es → IsParted w es first rest → Within (run w first) rest
    later-within w es first rest h p =
        let now = head-run b net tour start bound small w first (first-within w es first rest h p) in
        (settled-run b net w first h.0 p.early, p.late, omega (arith, h.2, p.moves, now))

    ticked-in : (w : World) (es : List Event) (i : ℕ) → IsSettledOn net w → i ≤ last → IsSweep w es → has_full_tick w es (place i).here ≡ true
    ticked-in w es i s l sweep =
        sweep.ticked (place i).here (subst (λ n. (place i).here < n.nodes) (sym s.1) (leg-tree b net tour start bound small i l).here_in)

    copied-in_three : (w : World) (es : List Event) (j : ℕ) → Within w es → j ≤ last → Known w j → Sweeps w 3 es → IsCopied place since (run w es) j
    copied-in_three w es j h l c sweeps =
        let x = b.split w 2 1 es sweeps in
        let p = parted w es x.0 x.1 x.2 h.1 in
        let mid = run w x.0 in
        let h1 = later-within w es x.0 x.1 h p in
        let staged = staged-in_two b net tour start bound small j l w x.0 (first-within w es x.0 x.1 h p) c x.3 in
        let y = x.4 in
        let q = parted mid x.1 y.0 y.1 y.2 p.late in
        let copied = copied-in_one b net tour start bound small j l mid y.0 (first-within mid x.1 y.0 y.1 h1 q) staged y.3 in
        let done = kept (within_course b net tour start bound small) (λ v. IsCopied place since v j) (copied-stays b net tour start bound small j l)
        (run mid y.0) y.1 (later-within mid x.1 y.0 y.1 h1 q) copied in
        subst (λ v. IsCopied place since v j) (sym (p.leads ∙ q.leads)) done

    next-in_four : (w : World) (es : List Event) (j : ℕ) → Within w es → suc j ≤ last → Known w j → Sweeps w 4 es → Known (run w es) (suc j)
    next-in_four w es j h l c sweeps =
        let x = b.split w 3 1 es sweeps in
        let p = parted w es x.0 x.1 x.2 h.1 in
        let mid = run w x.0 in
        let h1 = later-within w es x.0 x.1 h p in
        let copied = copied-in_three w x.0 j (first-within w es x.0 x.1 h p) (omega (arith, l)) c x.3 in
        let y = x.4 in
        let q = parted mid x.1 y.0 y.1 y.2 p.late in
        let taken = taken-in_one b net tour start bound small j l mid y.0 (first-within mid x.1 y.0 y.1 h1 q) copied (ticked-in mid y.0 (suc j) h1.0 l y.3) in
        let done = kept (within_course b net tour start bound small) (λ v. Known v (suc j)) (known-event b net tour start bound small (suc j) l)
        (run mid y.0) y.1 (later-within mid x.1 y.0 y.1 h1 q) taken in
        subst (λ v. Known v (suc j)) (sym (p.leads ∙ q.leads)) done

    -- four sweeps for each leg that is still ahead, and three for what the last one stages and
    -- copies
    pub copied-ahead : (k : ℕ) (w : World) (es : List Event) (j : ℕ) → Within w es → j + k ≡ last → Known w j → Sweeps w (4 * k + 3) es
        → IsCopied place since (run w es) last
    copied-ahead zero w es j h e c sweeps =
        let at : j ≡ last = omega (arith, e) in
        copied-in_three w es last h (omega arith) (subst (Known w) at c) (other-number w (4 * 0 + 3) 3 es refl sweeps)
    copied-ahead (suc k) w es j h e c sweeps =
        let x = b.split w 4 (4 * k + 3) es (other-number w (4 * suc k + 3) (4 + (4 * k + 3)) es (omega arith) sweeps) in
        let p = parted w es x.0 x.1 x.2 h.1 in
        let c' = next-in_four w x.0 j (first-within w es x.0 x.1 h p) (omega (arith, e)) c x.3 in
        subst (λ v. IsCopied place since v last) (sym p.leads) (copied-ahead k (run w x.0) x.1 (suc j) (later-within w es x.0 x.1 h p) (omega (arith, e)) c' x.4)

    pub nothing-known : (w : World) → Known w 0
    nothing-known w = record { staged = λ i h. absurd (omega (arith, h)); copied = λ i h. absurd (omega (arith, h)); next = λ i h. absurd (omega (arith, h)) }

    -- four sweeps make the values up to the next machine known, whatever they were
    pub known-in : (k : ℕ) (w : World) (es : List Event) → Within w es → k ≤ last → Sweeps w (4 * k) es → Known (run w es) k
    known-in zero w es h l sweeps = nothing-known (run w es)
    known-in (suc k) w es h l sweeps =
        let x = b.split w (4 * k) 4 es (other-number w (4 * suc k) (4 * k + 4) es (omega arith) sweeps) in
        let p = parted w es x.0 x.1 x.2 h.1 in
        let c = known-in k w x.0 (first-within w es x.0 x.1 h p) (omega (arith, l)) x.3 in
        subst (λ v. Known v (suc k)) (sym p.leads) (next-in_four (run w x.0) x.1 k (later-within w es x.0 x.1 h p) l c x.4)

    pub all-copied : (w : World) (es : List Event) → Within w es → Sweeps w (4 * last + 3) es → IsCopied place since (run w es) last
    all-copied w es h sweeps = copied-ahead last w es 0 h (omega arith) (nothing-known w) sweeps

    -- ---- along the ring

    ages-along : (w : World) (p : Leg) (ls : List Leg)
        → ((i : ℕ) → i ≤ length ls → since (staged_value w (leg_at p ls i)) ≤ since (machine_value w (leg_at p ls i)))
        → ((i : ℕ) → i ≤ length ls → since (copied_value w (leg_at p ls i)) ≤ since (staged_value w (leg_at p ls i)))
        → ((i : ℕ) → i < length ls → since (machine_value w (leg_at p ls (suc i))) ≤ since (copied_value w (leg_at p ls i)))
        → AgesFall (ring_of net) start (since (machine_value w p)) (staged_value w p ∷ copied_value w p ∷ values_of w ls)
    ages-along w p [] s c n = (s 0 (omega arith), (c 0 (omega arith), tt))
    ages-along w p (l ∷ ls) s c n = (
      s 0 (omega arith),
      (c 0 (omega arith), (n 0 (omega arith), ages-along w l ls (λ i h. s (suc i) (omega (arith, h))) (λ i h. c (suc i) (omega (arith, h))) (λ i h. n (suc i) (omega (arith, h))))),
    )

    pub ages-fall : (w : World) → w.net ≡ net → IsCopied place since w last → HasFallingAges (ring_of net) start (token_ring w)
    ages-fall w e c =
        let staged : (i : ℕ) → i ≤ last → since (staged_value w (place i)) ≤ since (machine_value w (place i)) =
        λ i h. elim (cases_eq i last) [ inl k ↦ subst (λ m. since (staged_value w (place m)) ≤ since (machine_value w (place m))) (sym k) c.staged.staged | inr ne ↦ c.staged.known.staged i (omega (arith, h, ne)) ] in
        let copied : (i : ℕ) → i ≤ last → since (copied_value w (place i)) ≤ since (staged_value w (place i)) =
        λ i h. elim (cases_eq i last) [ inl k ↦ subst (λ m. since (copied_value w (place m)) ≤ since (staged_value w (place m))) (sym k) c.copied | inr ne ↦ c.staged.known.copied i (omega (arith, h, ne)) ] in
        subst (HasFallingAges (ring_of net) start) (sym (ring-is b net tour w e)) (ages-along w tour.first tour.others staged copied c.staged.known.next)

  -- ---- a move of the head

  module _ (net : Network) (tour : IsTour net) where
    abbrev other_legs : ℕ
    other_legs = length tour.others

    -- If the values up to the j-th machine are the head's, the head moves within four sweeps for
    -- each machine from there on: without a move all values would be its own, and a full tick of
    -- the root would move it.
    pub moves-ahead : (j k : ℕ) (w : World) (es : List Event) (small : 0 < ring_of net) → IsSettledOn net w → IsUndamaged w es → j + k ≡ other_legs
        → IsKnown (leg b net tour (machine_value w tour.first) 0 small) (old b net tour (machine_value w tour.first) 0 small) w j
        → Sweeps w ((4 * k + 3) + 1) es → 0 < head_moves w es
    moves-ahead j k w es small s u e known sweeps =
        let ne : head_moves w es ≢ 0 = λ z. still z in
        omega (arith, ne)
      where
        still : head_moves w es ≡ 0 → ⊥
        still z =
            let start = machine_value w tour.first in
            let zero-age = b.age_of_start (ring_of net) start (head-in b net tour w s) in
            let h : IsWithin b net tour start 0 small w es = (s, u, omega (arith, z, zero-age)) in
            let x = b.split w (4 * k + 3) 1 es sweeps in
            let p = parted w es x.0 x.1 x.2 u in
            let mid = run w x.0 in
            let h1 = later-within net tour start 0 small w es x.0 x.1 h p in
            let all = copied-ahead net tour start 0 small k w x.0 j (first-within net tour start 0 small w es x.0 x.1 h p) e known x.3 in
            let y = x.4 in
            let q = parted mid x.1 y.0 y.1 y.2 p.late in
            ticked (within_course b net tour start 0 small) (λ v. IsCopied (leg b net tour start 0 small) (old b net tour start 0 small) v other_legs) (λ v. ⊥) tour.first.here
            (copied-stays b net tour start 0 small other_legs (omega arith)) (λ v e now c no. no) (λ v e now c f. moves start small v e now c f)
            mid y.0 (first-within net tour start 0 small mid x.1 y.0 y.1 h1 q) all (ticked-in net tour start 0 small mid y.0 0 h1.0 (omega arith) y.3)
          where
            moves : (start : ℕ) (small : 0 < ring_of net) (v : World) (e : Event) → IsEventWithin b net tour start 0 small v e
                → IsCopied (leg b net tour start 0 small) (old b net tour start 0 small) v other_legs → is_full_tick v e tour.first.here ≡ true → ⊥
            moves start small v e now c f =
                let least = last-copy b net tour start 0 small v c in
                let same = b.ages_differ (ring_of net) start (machine_value v tour.first) (seen_value v tour.first) (head-in b net tour v now.0) (seen-in_range b net tour v now.0)
                (omega (arith, least, now.2)) in
                special-ticks b net tour start 0 small v e now.0 now.1 same f (omega (arith, now.2))

    -- so it moves in any 8(n - 1) sweeps
    pub moves-in_round : (w : World) (es : List Event) → IsSettledOn net w → IsUndamaged w es → Sweeps w (8 * (net.nodes - 1)) es → 0 < head_moves w es
    moves-in_round w es s u sweeps =
        let two = two-values-at-least b net tour w s in
        let small : 0 < ring_of net = omega (arith, two) in
        moves-ahead 0 other_legs w es small s u (omega arith) (nothing-known net tour (machine_value w tour.first) 0 small w)
        (other-number w (8 * (net.nodes - 1)) ((4 * other_legs + 3) + 1) es (omega (arith, tour.count)) sweeps)

    pub moves-in_rounds : (k : ℕ) (w : World) (es : List Event) → IsSettledOn net w → IsUndamaged w es → Sweeps w (k * (8 * (net.nodes - 1))) es → k ≤ head_moves w es
    moves-in_rounds zero w es s u sweeps = omega arith
    moves-in_rounds (suc k) w es s u sweeps =
        let round = 8 * (net.nodes - 1) in
        let x = b.split w round (k * round) es (other-number w (suc k * round) (round + k * round) es (grind arith) sweeps) in
        let p = parted w es x.0 x.1 x.2 u in
        let one = moves-in_round w x.0 s p.early x.3 in
        let more = moves-in_rounds k (run w x.0) x.1 (settled-run b net w x.0 s p.early) p.late x.4 in
        omega (arith, one, more, p.moves)

    rounds : (m : ℕ) → 48 * m * m ≡ (6 * m) * (8 * m)
    rounds m = grind arith

    pub good-in_sweeps : (w : World) (es : List Event) → IsSettledOn net w → IsUndamaged w es → Sweeps w (48 * (net.nodes - 1) * (net.nodes - 1)) es → IsTokenRingGood (run w es)
    good-in_sweeps w es s u sweeps =
        let m = net.nodes - 1 in
        good-after_moves b net tour w es s u (moves-in_rounds (6 * m) w es s u (other-number w (48 * m * m) ((6 * m) * (8 * m)) es (rounds m) sweeps))

    -- ---- good after 16(n - 1)

    -- if all values are known, a move of the head makes the ring good
    good-by_ages : (start bound : ℕ) (small : bound < ring_of net) (w : World) (es : List Event) → IsSettledOn net w → IsUndamaged w es
        → IsCopied (leg b net tour start bound small) (old b net tour start bound small) w other_legs → 0 < head_moves w es → IsTokenRingGood (run w es)
    good-by_ages start bound small w es s u c one =
        let z = settled-run b net w es s u in
        let g = b.ages_turn_good (ring_of net) start (head_moves w es) (token_ring w) (token_ring (run w es)) (ring-run b net tour w es s u) (ring-in b net tour w s)
        (ages-fall net tour start bound small w s.1 c) one in
        subst (λ n. IsGood (ring_of n) (token_ring (run w es))) (sym z.1) g

    pub good-in_twice : (w : World) (es : List Event) → IsSettledOn net w → IsUndamaged w es → Sweeps w (16 * (net.nodes - 1)) es → IsTokenRingGood (run w es)
    good-in_twice w es s u sweeps =
        let round = 8 * (net.nodes - 1) in
        let x = b.split w (4 * other_legs + 3) (round + 1) es (other-number w (16 * (net.nodes - 1)) ((4 * other_legs + 3) + (round + 1)) es (omega (arith, tour.count)) sweeps) in
        let p = parted w es x.0 x.1 x.2 u in
        let mid = run w x.0 in
        let s1 = settled-run b net w x.0 s p.early in
        let two = two-values-at-least b net tour w s in
        let one = moves-in_round mid x.1 s1 p.late (b.fewer mid round (round + 1) x.1 (omega arith) x.4) in
        let start = machine_value w tour.first in
        let bound = 6 * (net.nodes - 1) in
        let small : bound < ring_of net = omega arith in
        let zero-age = b.age_of_start (ring_of net) start (head-in b net tour w s) in
        let good : IsTokenRingGood (run mid x.1) = elim (cases_lt bound (head_moves w x.0)) [
          | inl many ↦ good-run b net tour mid x.1 s1 p.late (good-after_moves b net tour w x.0 s p.early (omega (arith, many)))
          | inr few ↦ (let h : IsWithin b net tour start bound small w x.0 = (s, p.early, omega (arith, few, zero-age)) in
              good-by_ages start bound small mid x.1 s1 p.late (all-copied net tour start bound small w x.0 h x.3) one)
        ] in
        subst IsTokenRingGood (sym p.leads) good
