-- How the values that the head has held since some moment go round the tour: four sweeps a leg.
-- The age of a value says when the head held it; if the values of the first legs are known, their
-- ages fall from each to the next, or stay.
use Rattle.std.proofs.Common.{◌≡◌, ◌≢◌, ℕ, zero, suc, ◌+◌, ◌<◌, ◌≤◌, ◌⊎◌, inl, inr, Bool, true, false, ◌==◌, List, [], ◌∷◌, length, refl, sym, ◌∙◌, ap, subst, arith}
use Rattle.std.specs.Prelude.{if◌then◌else◌, nat_le}
use Rattle.std.proofs.lemmas.Bool.{eq-eqb, ne_eqb, cases_eq, cases_Bool}
use Rattle.std.proofs.lemmas.Bool.Decides.{nat_tests}
use Rattle.topology.specs.Network.{Network, ring_of}
use Rattle.topology.specs.declared.frame.Payload.{Payload}
use Rattle.k_state.specs.Machine.{root_moved, is_privileged}
use Rattle.k_state.specs.Ages.{age}
use Rattle.run_model.specs.World.{World}
use Rattle.run_model.specs.Step.{step}
use Rattle.run_model.specs.Run.{run, is_damage, IsUndamaged}
use Rattle.run_model.specs.Sweep.{IsSweep, Sweeps, is_full_tick, has_full_tick}
use Rattle.run_model.specs.declared.event.Event.{Event}
use Rattle.run_model.proofs.Along.{Course, kept, ticked, undamaged-front}
use Rattle.tree_convergence.specs.Present.{AlwaysPresent, AlwaysStaged}
use Rattle.convergence.specs.Ring.{Leg}
use Rattle.convergence.specs.Legs.{IsTour, IsTreeLeg, IsAmong, machine_value, staged_value, copied_value, seen_value}
use Rattle.convergence.specs.Moves.{head_move, head_moves}
use Rattle.convergence.specs.RingBelow.{Below}
use Rattle.convergence.proofs.RingPlaces.{leg_may_move, sees-same, seen-is_copied}
use Rattle.convergence.proofs.LegPlaces.{leg_at, among-at, among-later, followed-at, last-at}
use Rattle.convergence.proofs.Settled.{IsSettledOn, settled-event}
use Rattle.convergence.proofs.LegEvents.{moved_leg, staged-event, copied-event, full-tick, present-is, leg-joined}
use Rattle.convergence.proofs.RingEvents.{plain-event, special-event, head-move-is, first-sees, special-on, head-goes-on, head-in, two-values-at-least}

-- From the head to the machine of leg j ages do not rise: not from a machine to its staged value,
-- not from there to the copy, and not to the next machine.
pub record IsKnown (leg : ℕ → Leg) (old : ℕ → ℕ) (w : World) (j : ℕ) : Type 0 where
  pub staged : (i : ℕ) → i < j → old (staged_value w (leg i)) ≤ old (machine_value w (leg i))
  pub copied : (i : ℕ) → i < j → old (copied_value w (leg i)) ≤ old (staged_value w (leg i))
  pub next : (i : ℕ) → i < j → old (machine_value w (leg (suc i))) ≤ old (copied_value w (leg i))

-- nor to what the last of these machines has staged,
pub record IsStaged (leg : ℕ → Leg) (old : ℕ → ℕ) (w : World) (j : ℕ) : Type 0 where
  pub known : IsKnown leg old w j
  pub staged : old (staged_value w (leg j)) ≤ old (machine_value w (leg j))

-- nor to the copy of that
pub record IsCopied (leg : ℕ → Leg) (old : ℕ → ℕ) (w : World) (j : ℕ) : Type 0 where
  pub staged : IsStaged leg old w j
  pub copied : old (copied_value w (leg j)) ≤ old (staged_value w (leg j))

unmoved : (x y : ℕ) → x ≡ y → ◌≡◌ {A = ℕ} (if x == y then 0 else 1) 0
unmoved x y h = grind (arith, nat_tests)

moved : (x y : ℕ) → x ≢ y → ◌≡◌ {A = ℕ} (if x == y then 0 else 1) 1
moved x y h = ap (λ c. if c then 0 else 1) (ne_eqb x y h)

at-most : (f : ℕ → ℕ) (x y z bound : ℕ) → (z ≡ x) ⊎ (z ≡ y) → f x ≤ bound → f y ≤ bound → f z ≤ bound
at-most f x y z bound h p q = elim h [ inl e ↦ subst (λ n. f n ≤ bound) (sym e) p | inr e ↦ subst (λ n. f n ≤ bound) (sym e) q ]

at-least : (f : ℕ → ℕ) (x y z bound : ℕ) → (z ≡ x) ⊎ (z ≡ y) → bound ≤ f x → bound ≤ f y → bound ≤ f z
at-least f x y z bound h p q = elim h [ inl e ↦ subst (λ n. bound ≤ f n) (sym e) p | inr e ↦ subst (λ n. bound ≤ f n) (sym e) q ]

within : (x y : ℕ) → x ≤ y → nat_le x y ≡ true
within x y h = grind (arith, nat_tests)

is-within : (x y : ℕ) → nat_le x y ≡ true → x ≤ y
is-within x y h = grind (arith, nat_tests)

up_to : (a b c : ℕ) → a ≤ b → b ≤ c → a ≤ c
up_to a b c h k = omega (arith, h, k)

-- ---- a stretch in which the head's age stays below the number of values

module _ (b : Below) (net : Network) (tour : IsTour net) (start bound : ℕ) (small : bound < ring_of net) where
  abbrev pub leg : ℕ → Leg
  leg i = leg_at tour.first tour.others i

  abbrev pub end : ℕ
  end = length tour.others

  abbrev pub old : ℕ → ℕ
  old x = age (ring_of net) start x

  abbrev pub head_age : World → ℕ
  head_age w = old (machine_value w tour.first)

  pub leg-tree : (i : ℕ) → i ≤ end → IsTreeLeg net (leg i)
  leg-tree i h = tour.tree (leg i) (among-at tour.first tour.others i h)

  next-sees : (w : World) (i : ℕ) → i < end → seen_value w (leg (suc i)) ≡ copied_value w (leg i)
  next-sees w i h = seen-is_copied w (leg i) (leg (suc i)) (followed-at tour.first tour.others i tour.closed.1 h)

  -- the head's age counts its moves
  pub head-event : (w : World) (e : Event) → IsSettledOn net w → is_damage w e ≡ false → head_age w + head_move w e ≤ bound
      → head_age (step w e) ≡ head_age w + head_move w e
  head-event w e s d h =
      let x = machine_value w tour.first in
      let y = machine_value (step w e) tour.first in
      elim (special-event b net tour w e s d) [
        | inl k ↦ (let none : head_move w e ≡ 0 = head-move-is b net tour w e s d ∙ unmoved y x k in
            let same : old y ≡ old x = ap old k in
            omega (arith, none, same))
        | inr m ↦ (let ne : y ≢ x = λ k. head-goes-on (ring_of net) x (two-values-at-least b net tour w s) (head-in b net tour w s) (sym m.0 ∙ k) in
            let one : head_move w e ≡ 1 = head-move-is b net tour w e s d ∙ moved y x ne in
            let next : old (root_moved x (ring_of net)) ≡ old x + 1 = b.age_goes_on (ring_of net) start x (omega (arith, h, one, small)) in
            let is : old y ≡ old (root_moved x (ring_of net)) = ap old m.0 in
            omega (arith, one, next, is))
      ]

  -- an event, and a list, within such a stretch
  abbrev pub IsEventWithin : World → Event → Type 0
  IsEventWithin w e = IsSettledOn net w × (is_damage w e ≡ false) × (head_age w + head_move w e ≤ bound)

  abbrev pub IsWithin : World → List Event → Type 0
  IsWithin w es = IsSettledOn net w × IsUndamaged w es × (head_age w + head_moves w es ≤ bound)

  pub event-within : (w : World) (e : Event) (es : List Event) → IsWithin w (e ∷ es) → IsEventWithin w e
  event-within w e es (s, u, h) = (s, (undamaged-front w e es u).0, omega (arith, h))

  pub rest-within : (w : World) (e : Event) (es : List Event) → IsWithin w (e ∷ es) → IsWithin (step w e) es
  rest-within w e es (s, u, h) =
      let d = (undamaged-front w e es u).0 in
      let now = head-event w e s d (omega (arith, h)) in
      (settled-event b net w e s d, (undamaged-front w e es u).1, omega (arith, h, now))

  abbrev pub within_course : Course
  within_course = record { holds = IsWithin; says = IsEventWithin; now = event-within; later = rest-within }

  pub head-run : (w : World) (es : List Event) → IsWithin w es → head_age (run w es) ≡ head_age w + head_moves w es
  head-run w [] h = omega arith
  head-run w (e ∷ es) h =
      let now = event-within w e es h in
      let one = head-event w e now.0 now.1 now.2 in
      omega (arith, one, head-run (step w e) es (rest-within w e es h))

  -- ---- one event: no value gets younger, and none overtakes the one before it

  staged-rises : (w : World) (e : Event) (i : ℕ) → IsEventWithin w e → i ≤ end → old (staged_value w (leg i)) ≤ old (machine_value w (leg i))
      → old (staged_value w (leg i)) ≤ old (staged_value (step w e) (leg i))
  staged-rises w e i now l h = at-least old (staged_value w (leg i)) (machine_value w (leg i)) (staged_value (step w e) (leg i)) (old (staged_value w (leg i)))
      (staged-event b net w e (leg i) now.0 now.1 (leg-tree i l)) (omega arith) h

  copied-rises : (w : World) (e : Event) (i : ℕ) → IsEventWithin w e → i ≤ end → old (copied_value w (leg i)) ≤ old (staged_value w (leg i))
      → old (copied_value w (leg i)) ≤ old (copied_value (step w e) (leg i))
  copied-rises w e i now l h = at-least old (copied_value w (leg i)) (staged_value w (leg i)) (copied_value (step w e) (leg i)) (old (copied_value w (leg i)))
      (copied-event b net w e (leg i) now.0 now.1 (leg-tree i l)) (omega arith) h

  -- a machine other than the first stays, or takes the copy of the one before it
  next-event : (w : World) (e : Event) (i : ℕ) → IsEventWithin w e → i < end
      → (machine_value (step w e) (leg (suc i)) ≡ machine_value w (leg (suc i))) ⊎ (machine_value (step w e) (leg (suc i)) ≡ copied_value w (leg i))
  next-event w e i now l = elim (plain-event b net tour w e (leg (suc i)) now.0 now.1 (among-later tour.first tour.others i l)) [
    | inl k ↦ inl k
    | inr k ↦ inr (k ∙ next-sees w i l)
  ]

  machine-rises : (w : World) (e : Event) (j : ℕ) → IsEventWithin w e → j ≤ end → IsKnown leg old w j → (i : ℕ) → i ≤ j
      → old (machine_value w (leg i)) ≤ old (machine_value (step w e) (leg i))
  machine-rises w e j now l c zero h = omega (arith, head-event w e now.0 now.1 now.2)
  machine-rises w e j now l c (suc i) h = at-least old (machine_value w (leg (suc i))) (copied_value w (leg i)) (machine_value (step w e) (leg (suc i)))
      (old (machine_value w (leg (suc i)))) (next-event w e i now (omega (arith, h, l))) (omega arith) (c.next i (omega (arith, h)))

  staged-falls : (w : World) (e : Event) (j : ℕ) → IsEventWithin w e → j ≤ end → IsKnown leg old w j → (i : ℕ) → i ≤ j
      → old (staged_value w (leg i)) ≤ old (machine_value w (leg i)) → old (staged_value (step w e) (leg i)) ≤ old (machine_value (step w e) (leg i))
  staged-falls w e j now l c i h k =
      let most = at-most old (staged_value w (leg i)) (machine_value w (leg i)) (staged_value (step w e) (leg i)) (old (machine_value w (leg i)))
      (staged-event b net w e (leg i) now.0 now.1 (leg-tree i (omega (arith, h, l)))) k (omega arith) in
      up_to (old (staged_value (step w e) (leg i))) (old (machine_value w (leg i))) (old (machine_value (step w e) (leg i))) most (machine-rises w e j now l c i h)

  copied-falls : (w : World) (e : Event) (i : ℕ) → IsEventWithin w e → i ≤ end → old (staged_value w (leg i)) ≤ old (machine_value w (leg i))
      → old (copied_value w (leg i)) ≤ old (staged_value w (leg i)) → old (copied_value (step w e) (leg i)) ≤ old (staged_value (step w e) (leg i))
  copied-falls w e i now l h k =
      let most = at-most old (copied_value w (leg i)) (staged_value w (leg i)) (copied_value (step w e) (leg i)) (old (staged_value w (leg i)))
      (copied-event b net w e (leg i) now.0 now.1 (leg-tree i l)) k (omega arith) in
      up_to (old (copied_value (step w e) (leg i))) (old (staged_value w (leg i))) (old (staged_value (step w e) (leg i))) most (staged-rises w e i now l h)

  next-falls : (w : World) (e : Event) (i : ℕ) → IsEventWithin w e → i < end → old (copied_value w (leg i)) ≤ old (staged_value w (leg i))
      → old (machine_value w (leg (suc i))) ≤ old (copied_value w (leg i)) → old (machine_value (step w e) (leg (suc i))) ≤ old (copied_value (step w e) (leg i))
  next-falls w e i now l h k =
      let most = at-most old (machine_value w (leg (suc i))) (copied_value w (leg i)) (machine_value (step w e) (leg (suc i))) (old (copied_value w (leg i)))
      (next-event w e i now l) k (omega arith) in
      up_to (old (machine_value (step w e) (leg (suc i)))) (old (copied_value w (leg i))) (old (copied_value (step w e) (leg i))) most (copied-rises w e i now (omega (arith, l)) h)

  pub known-event : (j : ℕ) → j ≤ end → (w : World) (e : Event) → IsEventWithin w e → IsKnown leg old w j → IsKnown leg old (step w e) j
  known-event j l w e now c = record {
    staged = λ i h. staged-falls w e j now l c i (omega (arith, h)) (c.staged i h);
    copied = λ i h. copied-falls w e i now (omega (arith, h, l)) (c.staged i h) (c.copied i h);
    next = λ i h. next-falls w e i now (omega (arith, h, l)) (c.copied i h) (c.next i h);
  }

  pub staged-stays : (j : ℕ) → j ≤ end → (w : World) (e : Event) → IsEventWithin w e → IsStaged leg old w j → IsStaged leg old (step w e) j
  staged-stays j l w e now c = record { known = known-event j l w e now c.known; staged = staged-falls w e j now l c.known j (omega arith) c.staged }

  pub copied-stays : (j : ℕ) → j ≤ end → (w : World) (e : Event) → IsEventWithin w e → IsCopied leg old w j → IsCopied leg old (step w e) j
  copied-stays j l w e now c = record { staged = staged-stays j l w e now c.staged; copied = copied-falls w e j now l c.staged.staged c.copied }

  -- ---- two sweeps stage, one more copies, and one more takes

  abbrev young : ℕ → Payload → Bool
  young most p = nat_le (old p.ring) most

  machine-along : (j : ℕ) → j ≤ end → (w : World) (es : List Event) → IsWithin w es → IsKnown leg old w j
      → old (machine_value w (leg j)) ≤ old (machine_value (run w es) (leg j))
  machine-along j l w es h c =
      let first = old (machine_value w (leg j)) in
      (kept within_course (λ x. IsKnown leg old x j × (first ≤ old (machine_value x (leg j))))
      (λ x e now k. (known-event j l x e now k.0, up_to first (old (machine_value x (leg j))) (old (machine_value (step x e) (leg j))) k.1 (machine-rises x e j now l k.0 j (omega arith))))
      w es h (c, omega arith)).1

  staged-along : (j : ℕ) → j ≤ end → (w : World) (es : List Event) → IsWithin w es → IsStaged leg old w j
      → old (staged_value w (leg j)) ≤ old (staged_value (run w es) (leg j))
  staged-along j l w es h c =
      let first = old (staged_value w (leg j)) in
      (kept within_course (λ x. IsStaged leg old x j × (first ≤ old (staged_value x (leg j))))
      (λ x e now k. (staged-stays j l x e now k.0, up_to first (old (staged_value x (leg j))) (old (staged_value (step x e) (leg j))) k.1 (staged-rises x e j now l k.0.staged)))
      w es h (c, omega arith)).1

  -- until the end a machine says no value older than the one that it has at the end
  says-young : (j : ℕ) → j ≤ end → (w : World) (es : List Event) → IsWithin w es → IsKnown leg old w j
      → AlwaysPresent (young (old (machine_value (run w es) (leg j)))) w es (leg j).here (leg j).onward
  says-young j l w [] h c =
      ap (λ x. nat_le (old x) (old (machine_value w (leg j)))) (present-is b net w (leg j) h.0 (leg-tree j l))
      ∙ within (old (machine_value w (leg j))) (old (machine_value w (leg j))) (omega arith)
  says-young j l w (e ∷ es) h c = (
    ap (λ x. nat_le (old x) (old (machine_value (run w (e ∷ es)) (leg j)))) (present-is b net w (leg j) h.0 (leg-tree j l))
        ∙ within (old (machine_value w (leg j))) (old (machine_value (run w (e ∷ es)) (leg j))) (machine-along j l w (e ∷ es) h c),
    says-young j l (step w e) es (rest-within w e es h) (known-event j l w e (event-within w e es h) c),
  )

  -- and its node stages none older than the one that it has staged at the end
  stages-young : (j : ℕ) → j ≤ end → (w : World) (es : List Event) → IsWithin w es → IsStaged leg old w j
      → AlwaysStaged (young (old (staged_value (run w es) (leg j)))) w es (leg j).here (leg j).onward
  stages-young j l w [] h c = within (old (staged_value w (leg j))) (old (staged_value w (leg j))) (omega arith)
  stages-young j l w (e ∷ es) h c = (
    within (old (staged_value w (leg j))) (old (staged_value (run w (e ∷ es)) (leg j))) (staged-along j l w (e ∷ es) h c),
    stages-young j l (step w e) es (rest-within w e es h) (staged-stays j l w e (event-within w e es h) c),
  )

  pub staged-in_two : (j : ℕ) → j ≤ end → (w : World) (es : List Event) → IsWithin w es → IsKnown leg old w j → Sweeps w 2 es → IsStaged leg old (run w es) j
  staged-in_two j l w es h c sweeps =
      let on = leg-joined b net w (leg j) h.0 (leg-tree j l) in
      let most = old (machine_value (run w es) (leg j)) in
      let f = b.staged_turns (young most) w es (leg j).here (leg j).onward h.0.0.range h.1 on sweeps (says-young j l w es h c) in
      record { known = kept within_course (λ x. IsKnown leg old x j) (known-event j l) w es h c; staged = is-within (old (staged_value (run w es) (leg j))) most f }

  pub copied-in_one : (j : ℕ) → j ≤ end → (w : World) (es : List Event) → IsWithin w es → IsStaged leg old w j → IsSweep w es → IsCopied leg old (run w es) j
  copied-in_one j l w es h c sweep =
      let on = leg-joined b net w (leg j) h.0 (leg-tree j l) in
      let most = old (staged_value (run w es) (leg j)) in
      let f = b.copy_turns (young most) w es (leg j).here (leg j).onward h.0.0.range on (h.0.0.links (leg j).here (leg j).onward on) sweep (stages-young j l w es h c) in
      record { staged = kept within_course (λ x. IsStaged leg old x j) (staged-stays j l) w es h c; copied = is-within (old (copied_value (run w es) (leg j))) most f }

  -- in a full tick a machine other than the special one takes what it sees
  full-plain : (w : World) (e : Event) (l : Leg) → IsSettledOn net w → is_damage w e ≡ false → IsAmong l tour.others → is_full_tick w e l.here ≡ true
      → machine_value (step w e) l ≡ seen_value w l
  full-plain w e l s d i h =
      let sp = special-on net w l false s.1 (tour.others_not l i) in
      let r = full-tick b net w e l s d (tour.tree l (inr i)) h in
      elim (cases_Bool (leg_may_move w l)) [
        | inl y ↦ r ∙ ap (λ c. if c then moved_leg w l else machine_value w l) y
            ∙ ap (λ c. if c then root_moved (machine_value w l) (ring_of w.net) else seen_value w l) sp
        | inr n ↦ r ∙ ap (λ c. if c then moved_leg w l else machine_value w l) n
            ∙ sees-same (machine_value w l) (seen_value w l) (subst (λ c. is_privileged c (machine_value w l) (seen_value w l) ≡ false) sp n)
      ]

  pub taken-in_one : (j : ℕ) → suc j ≤ end → (w : World) (es : List Event) → IsWithin w es → IsCopied leg old w j → has_full_tick w es (leg (suc j)).here ≡ true
      → IsKnown leg old (run w es) (suc j)
  taken-in_one j l w es h c t =
      ticked within_course (λ x. IsCopied leg old x j) (λ x. IsKnown leg old x (suc j)) (leg (suc j)).here (copied-stays j (omega (arith, l)))
      (λ x e now p q. known-event (suc j) l x e now q) (λ x e now p f. takes x e now p f) w es h c t
    where
      takes : (x : World) (e : Event) → IsEventWithin x e → IsCopied leg old x j → is_full_tick x e (leg (suc j)).here ≡ true → IsKnown leg old (step x e) (suc j)
      takes x e now p f =
          let n = copied-stays j (omega (arith, l)) x e now p in
          let is = full-plain x e (leg (suc j)) now.0 now.1 (among-later tour.first tour.others j (omega (arith, l))) f ∙ next-sees x j (omega (arith, l)) in
          let new : old (machine_value (step x e) (leg (suc j))) ≤ old (copied_value (step x e) (leg j)) =
          subst (λ v. old v ≤ old (copied_value (step x e) (leg j))) (sym is) (copied-rises x e j now (omega (arith, l)) p.copied) in
          let stages : (i : ℕ) → i < suc j → old (staged_value (step x e) (leg i)) ≤ old (machine_value (step x e) (leg i)) =
          λ i h. elim (cases_eq i j) [ inl k ↦ subst (λ m. old (staged_value (step x e) (leg m)) ≤ old (machine_value (step x e) (leg m))) (sym k) n.staged.staged | inr ne ↦ n.staged.known.staged i (omega (arith, h, ne)) ] in
          let copies : (i : ℕ) → i < suc j → old (copied_value (step x e) (leg i)) ≤ old (staged_value (step x e) (leg i)) =
          λ i h. elim (cases_eq i j) [ inl k ↦ subst (λ m. old (copied_value (step x e) (leg m)) ≤ old (staged_value (step x e) (leg m))) (sym k) n.copied | inr ne ↦ n.staged.known.copied i (omega (arith, h, ne)) ] in
          let nexts : (i : ℕ) → i < suc j → old (machine_value (step x e) (leg (suc i))) ≤ old (copied_value (step x e) (leg i)) =
          λ i h. elim (cases_eq i j) [ inl k ↦ subst (λ m. old (machine_value (step x e) (leg (suc m))) ≤ old (copied_value (step x e) (leg m))) (sym k) new | inr ne ↦ n.staged.known.next i (omega (arith, h, ne)) ] in
          record { staged = stages; copied = copies; next = nexts }

  -- ---- the whole tour

  -- no machine's value is younger than the head's
  pub machines-fall : (w : World) (j : ℕ) → IsKnown leg old w j → (i : ℕ) → i ≤ j → old (machine_value w (leg i)) ≤ head_age w
  machines-fall w j c zero h = omega arith
  machines-fall w j c (suc i) h =
      let a = c.staged i (omega (arith, h)) in
      let p = c.copied i (omega (arith, h)) in
      let n = c.next i (omega (arith, h)) in
      let r = machines-fall w j c i (omega (arith, h)) in
      omega (arith, a, p, n, r)

  -- if the last copy is as old as the head, the special machine sees its own value, and a full
  -- tick of the root moves the head
  pub special-ticks : (w : World) (e : Event) → IsSettledOn net w → is_damage w e ≡ false → machine_value w tour.first ≡ seen_value w tour.first
      → is_full_tick w e tour.first.here ≡ true → head_move w e ≢ 0
  special-ticks w e s d same h z =
      let l = tour.first in
      let sp = special-on net w l true s.1 tour.first_special in
      let may : leg_may_move w l ≡ true = subst (λ c. is_privileged c (machine_value w l) (seen_value w l) ≡ true) (sym sp) (eq-eqb (machine_value w l) (seen_value w l) same) in
      let goes : machine_value (step w e) l ≡ root_moved (machine_value w l) (ring_of net) =
      full-tick b net w e l s d (tour.tree l (inl refl)) h
      ∙ ap (λ c. if c then moved_leg w l else machine_value w l) may
      ∙ ap (λ c. if c then root_moved (machine_value w l) (ring_of w.net) else seen_value w l) sp
      ∙ ap (λ n. root_moved (machine_value w l) (ring_of n)) s.1 in
      let ne = head-goes-on (ring_of net) (machine_value w l) (two-values-at-least b net tour w s) (head-in b net tour w s) in
      let one = head-move-is b net tour w e s d ∙ moved (machine_value (step w e) l) (machine_value w l) (λ k. ne (sym goes ∙ k)) in
      omega (arith, one, z)

  pub last-copy : (w : World) → IsCopied leg old w end → old (seen_value w tour.first) ≤ head_age w
  last-copy w c =
      let is : seen_value w tour.first ≡ copied_value w (leg end) = first-sees b net tour w ∙ ap (copied_value w) (last-at tour.first tour.others) in
      let m = machines-fall w end c.staged.known end (omega arith) in
      subst (λ v. old v ≤ head_age w) (sym is) (up_to (old (copied_value w (leg end))) (old (staged_value w (leg end))) (head_age w) c.copied
      (up_to (old (staged_value w (leg end))) (old (machine_value w (leg end))) (head_age w) c.staged.staged m))
