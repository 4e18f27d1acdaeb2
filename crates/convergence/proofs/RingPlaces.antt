-- The places of a leg's values on the token ring: the place of the machine's value is three times
-- the place of the leg. So what is known about privilege on a good ring holds for legs.
use Rattle.std.proofs.Common.{◌≡◌, ℕ, zero, suc, ◌*◌, ◌<◌, ◌≤◌, inl, inr, Bool, true, false, List, [], ◌∷◌, length, refl, sym, ◌∙◌, ap, subst, arith}
use Rattle.std.specs.Prelude.{flat_map}
use Rattle.std.proofs.lemmas.Bool.{cases_Bool}
use Rattle.std.proofs.lemmas.Bool.Decides.{nat_tests}
use Rattle.k_state.specs.Laws.{OneItemIsPrivileged}
use Rattle.k_state.specs.Machine.{is_privileged}
use Rattle.k_state.specs.Ring.{IsGood, IsRing, is_privileged_at, last_of, sees_another}
use Rattle.run_model.specs.World.{World}
use Rattle.convergence.specs.Ring.{Leg, leg_values}
use Rattle.convergence.specs.Legs.{is_special_leg, machine_value, staged_value, copied_value, seen_value, coming_value, IsFollowed, last_leg, IsAmong}
use Rattle.convergence.proofs.LegPlaces.{leg_at, among-later, followed-at, last-at, place-of, place-after}

-- the values of some legs
abbrev pub values_of : World → List Leg → List ℕ
values_of w ls = flat_map (leg_values w) ls

-- the machine of the leg after p sees p's copy, and what p staged comes to it
pub seen-is_copied : (w : World) (p l : Leg) → (l.from ≡ p.here) × (l.here ≡ p.onward) → seen_value w l ≡ copied_value w p
seen-is_copied w p l (a, b) = ap (λ h. ((w.node h).port l.from).copy.ring) b ∙ ap (λ f. ((w.node p.onward).port f).copy.ring) a

pub coming-is_staged : (w : World) (p l : Leg) → (l.from ≡ p.here) × (l.here ≡ p.onward) → coming_value w l ≡ staged_value w p
coming-is_staged w p l (a, b) = ap (λ f. ((w.node f).port l.here).staged.ring) a ∙ ap (λ h. ((w.node p.here).port h).staged.ring) b

-- the machine of a leg may move
abbrev pub leg_may_move : World → Leg → Bool
leg_may_move w l = is_privileged (is_special_leg w.net l) (machine_value w l) (seen_value w l)

-- the last value of some legs is the copy of the last leg
pub last-value : (w : World) (l : Leg) (ls : List Leg) → last_of (copied_value w l) (values_of w ls) ≡ copied_value w (last_leg l ls)
last-value w l [] = refl
last-value w l (k ∷ ks) = last-value w k ks

three-more : (P : ℕ → Type 0) (i : ℕ) → P (suc (suc (suc (3 * i)))) → P (3 * suc i)
three-more P i h = let e : suc (suc (suc (3 * i))) ≡ 3 * suc i = omega arith in subst P e h

machine-place : (w : World) (p : Leg) (ls : List Leg) (i : ℕ) → IsFollowed p ls → i < length ls
    → sees_another (copied_value w p) (values_of w ls) (3 * i) ≡ is_privileged false (machine_value w (leg_at p ls (suc i))) (seen_value w (leg_at p ls (suc i)))
machine-place w p [] i f h = absurd (omega (arith, h))
machine-place w p (l ∷ ls) zero f h = ap (is_privileged false (machine_value w l)) (sym (seen-is_copied w p l f.0))
machine-place w p (l ∷ ls) (suc i) f h =
    three-more (λ k. sees_another (copied_value w p) (values_of w (l ∷ ls)) k ≡ is_privileged false (machine_value w (leg_at l ls (suc i))) (seen_value w (leg_at l ls (suc i)))) i
    (machine-place w l ls i f.1 (omega (arith, h)))

copy-place : (w : World) (left : ℕ) (p : Leg) (ls : List Leg) (i : ℕ) → i ≤ length ls
    → sees_another left (values_of w (p ∷ ls)) (suc (suc (3 * i))) ≡ is_privileged false (copied_value w (leg_at p ls i)) (staged_value w (leg_at p ls i))
copy-place w left p ls zero h = refl
copy-place w left p [] (suc i) h = absurd (omega (arith, h))
copy-place w left p (l ∷ ls) (suc i) h =
    three-more (λ k. sees_another left (values_of w (p ∷ l ∷ ls)) (suc (suc k)) ≡ is_privileged false (copied_value w (leg_at l ls i)) (staged_value w (leg_at l ls i))) i
    (copy-place w (copied_value w p) l ls i (omega (arith, h)))

pub sees-same : (x y : ℕ) → is_privileged false x y ≡ false → x ≡ y
sees-same x y h = grind (arith, nat_tests)

module _ (one : OneItemIsPrivileged) (w : World) (q : ℕ) (first : Leg) (others : List Leg) (closed : IsFollowed (last_leg first others) (first ∷ others))
    (special : is_special_leg w.net first ≡ true) (plain : (l : Leg) → IsAmong l others → is_special_leg w.net l ≡ false)
    (two : 1 < q) (below : IsRing q (values_of w (first ∷ others))) (good : IsGood q (values_of w (first ∷ others))) where
  abbrev ring : List ℕ
  ring = values_of w (first ∷ others)

  leg-place : (i : ℕ) → i ≤ length others → is_privileged_at ring (3 * i) ≡ leg_may_move w (leg_at first others i)
  leg-place zero h =
      ap (is_privileged true (machine_value w first)) (last-value w first others ∙ sym (seen-is_copied w (last_leg first others) first closed.0))
      ∙ ap (λ c. is_privileged c (machine_value w first) (seen_value w first)) (sym special)
  leg-place (suc i) h =
      three-more (λ k. is_privileged_at ring k ≡ leg_may_move w (leg_at first others (suc i))) i
      (machine-place w first others i closed.1 (omega arith)
      ∙ ap (λ c. is_privileged c (machine_value w (leg_at first others (suc i))) (seen_value w (leg_at first others (suc i)))) (sym (plain (leg_at first others (suc i)) (among-later first others i (omega arith)))))

  -- at most one machine may move
  pub one-mover : (l k : Leg) → IsAmong l (first ∷ others) → IsAmong k (first ∷ others) → leg_may_move w l ≡ true → leg_may_move w k ≡ true → l ≡ k
  one-mover l k a b h o =
      let i = place-of l first others a in
      let j = place-of k first others b in
      let e = one q (3 * i.0) (3 * j.0) ring two below good (leg-place i.0 i.1 ∙ ap (leg_may_move w) (sym i.2) ∙ h) (leg-place j.0 j.1 ∙ ap (leg_may_move w) (sym j.2) ∙ o) in
      let same : i.0 ≡ j.0 = omega (arith, e) in
      i.2 ∙ ap (leg_at first others) same ∙ sym j.2

  -- if a machine may move, no copy is about to change
  copies-stand : (l : Leg) → IsAmong l (first ∷ others) → leg_may_move w l ≡ true → (j : ℕ) → j ≤ length others
      → copied_value w (leg_at first others j) ≡ staged_value w (leg_at first others j)
  copies-stand l a h j small =
      let i = place-of l first others a in
      let place = copy-place w (machine_value w first) first others j small in
      elim (cases_Bool (is_privileged_at ring (suc (suc (3 * j))))) [
        | inl y ↦ absurd (omega (arith, one q (3 * i.0) (suc (suc (3 * j))) ring two below good (leg-place i.0 i.1 ∙ ap (leg_may_move w) (sym i.2) ∙ h) y))
        | inr n ↦ sees-same (copied_value w (leg_at first others j)) (staged_value w (leg_at first others j)) (sym place ∙ n)
      ]

  fed-by : (p l : Leg) → (l.from ≡ p.here) × (l.here ≡ p.onward) → copied_value w p ≡ staged_value w p → coming_value w l ≡ seen_value w l
  fed-by p l f stands = coming-is_staged w p l f ∙ sym stands ∙ sym (seen-is_copied w p l f)

  -- so what comes to that machine equals what it sees
  pub mover-is_fed : (l : Leg) → IsAmong l (first ∷ others) → leg_may_move w l ≡ true → coming_value w l ≡ seen_value w l
  mover-is_fed l (inl e) h =
      let stands = subst (λ p. copied_value w p ≡ staged_value w p) (sym (last-at first others)) (copies-stand l (inl e) h (length others) (omega arith)) in
      subst (λ k. coming_value w k ≡ seen_value w k) (sym e) (fed-by (last_leg first others) first closed.0 stands)
  mover-is_fed l (inr a) h =
      let r = place-after l first others a in
      subst (λ k. coming_value w k ≡ seen_value w k) (sym r.2)
      (fed-by (leg_at first others r.0) (leg_at first others (suc r.0)) (followed-at first others r.0 closed.1 r.1) (copies-stand l (inr a) h r.0 (omega (arith, r.1))))
