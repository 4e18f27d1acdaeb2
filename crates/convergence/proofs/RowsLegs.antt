-- The legs of the tours of a square, a line and two nodes: the five values that a leg names, how
-- one leg follows another, and what makes them a tour.
use Rattle.std.proofs.Common.{◌≡◌, ℕ, zero, suc, inl, inr, [], ◌∷◌, length, true, false, IsTrue, IsFalse, refl, sym, ◌∙◌, ap, subst, arith}
use Rattle.std.proofs.lemmas.Bool.{false≢true}
use Rattle.std.proofs.lemmas.Bool.Decides.{nat_tests}
use Rattle.topology.specs.Network.{Network}
use Rattle.run_model.proofs.RowsFaults.{square}
use Rattle.run_model.proofs.RowsTwo.{two_nodes, each-node}
use Rattle.convergence.specs.Ring.{Leg, legs}
use Rattle.convergence.specs.Legs.{is_on_tree, is_special_leg, machine_value, staged_value, copied_value, seen_value, coming_value}
use Rattle.convergence.specs.Legs.{IsFollowed, last_leg, IsAmong, IsTreeLeg, IsTour}
use Rattle.convergence.proofs.RowsTour.{numbered_on, leg, line}

-- ---- the tree of the square

-- node 3 is a child of 1, and 1 is the parent of 3
a-child_is_on_the_tree : is_on_tree square 1 3 ≡ true
a-child_is_on_the_tree = refl

a-parent_is_on_the_tree : is_on_tree square 3 1 ≡ true
a-parent_is_on_the_tree = refl

-- nodes 2 and 3 are joined, but not on the tree
an-edge_beside_the_tree : is_on_tree square 2 3 ≡ false
an-edge_beside_the_tree = refl

-- ---- the special leg

-- the root of the square has tree neighbours 1 and 2: its machine from 1 is special, and the one from
-- 2 is not
special-leg : is_special_leg square (leg 1 0 2) ≡ true
special-leg = refl

other-leg_of_the_root : is_special_leg square (leg 2 0 1) ≡ false
other-leg_of_the_root = refl

-- the root of the line is node 2; node 1 comes from its smallest tree neighbour, but is no root
special-leg_of_the_line : is_special_leg line (leg 1 2 1) ≡ true
special-leg_of_the_line = refl

no-root : is_special_leg line (leg 0 1 2) ≡ false
no-root = refl

-- ---- five values of a leg

-- through node 0 from 1 to 2: the values of the leg itself, and the copy and the staged value that
-- come before them
five-values :
    (machine_value (numbered_on square) (leg 1 0 2) ≡ 10)
    × (staged_value (numbered_on square) (leg 1 0 2) ≡ 21)
    × (copied_value (numbered_on square) (leg 1 0 2) ≡ 202)
    × (seen_value (numbered_on square) (leg 1 0 2) ≡ 12)
    × (coming_value (numbered_on square) (leg 1 0 2) ≡ 101)
five-values = (refl, refl, refl, refl, refl)

-- through node 3 from 1 and back to 1
five-values_of_a_turn :
    (machine_value (numbered_on square) (leg 1 3 1) ≡ 310)
    × (staged_value (numbered_on square) (leg 1 3 1) ≡ 311)
    × (copied_value (numbered_on square) (leg 1 3 1) ≡ 132)
    × (seen_value (numbered_on square) (leg 1 3 1) ≡ 312)
    × (coming_value (numbered_on square) (leg 1 3 1) ≡ 131)
five-values_of_a_turn = (refl, refl, refl, refl, refl)

-- what the machine sees is not what the node that the leg goes on to has copied
seen-is_not_copied : ¬ (seen_value (numbered_on square) (leg 1 3 1) ≡ 132)
seen-is_not_copied e = grind arith

-- ---- one leg after another

-- the leg from 1 through 0 to 2 is followed by one from 0 through 2, and so on
followed : IsFollowed (leg 1 0 2) (leg 0 2 0 ∷ leg 2 0 1 ∷ [])
followed = ((refl, refl), ((refl, refl), tt))

-- an empty list follows each leg
followed-by_none : IsFollowed (leg 1 0 2) []
followed-by_none = tt

-- the leg comes from 0, but not to 2
not-onward : ¬ IsFollowed (leg 1 0 2) (leg 0 1 3 ∷ [])
not-onward f = let same : ◌≡◌ {A = ℕ} 1 2 = f.0.1 in absurd cc

-- the leg comes to 2, but not from 0
not-from_here : ¬ IsFollowed (leg 1 0 2) (leg 3 2 0 ∷ [])
not-from_here f = let same : ◌≡◌ {A = ℕ} 3 0 = f.0.0 in absurd cc

-- the second leg follows the first, but the third does not follow the second
not-any_further : ¬ IsFollowed (leg 1 0 2) (leg 0 2 0 ∷ leg 0 1 3 ∷ [])
not-any_further f = let same : ◌≡◌ {A = ℕ} 0 2 = f.1.0.0 in absurd cc

-- the last of three legs is the third
last-of_three : last_leg (leg 1 0 2) (leg 0 2 0 ∷ leg 2 0 1 ∷ []) ≡ leg 2 0 1
last-of_three = refl

-- a leg without followers is the last
last-of_one : last_leg (leg 1 0 2) [] ≡ leg 1 0 2
last-of_one = refl

-- the second leg of a list is among its legs
among : IsAmong (leg 0 2 0) (leg 1 0 2 ∷ leg 0 2 0 ∷ [])
among = inr (inl refl)

-- a leg from 0 to 2 that goes on elsewhere is another leg
not-among : ¬ IsAmong (leg 0 2 1) (leg 1 0 2 ∷ leg 0 2 0 ∷ [])
not-among (inl e) = let same : ◌≡◌ {A = ℕ} 0 1 = ap (λ (l : Leg). l.from) e in absurd cc
not-among (inr (inl e)) = let same : ◌≡◌ {A = ℕ} 1 0 = ap (λ (l : Leg). l.onward) e in absurd cc
not-among (inr (inr none)) = none

-- ---- legs of the tree

-- after 1 comes 2 round the root of the square, after 2 again 1, and the leaf 3 turns back
tree-leg : IsTreeLeg square (leg 1 0 2)
tree-leg = record { here_in = omega arith; from = refl; onward = refl; next = refl; source = refl }

tree-leg_round : IsTreeLeg square (leg 2 0 1)
tree-leg_round = record { here_in = omega arith; from = refl; onward = refl; next = refl; source = refl }

tree-leg_of_a_leaf : IsTreeLeg square (leg 1 3 1)
tree-leg_of_a_leaf = record { here_in = omega arith; from = refl; onward = refl; next = refl; source = refl }

-- the leg turns back to 1, which does not come after 1
not-back : ¬ IsTreeLeg square (leg 1 0 1)
not-back t = let same : ◌≡◌ {A = ℕ} 1 2 = t.next in absurd cc

-- the leg comes from 2, which is joined to 3 but not on the tree
not-beside_the_tree : ¬ IsTreeLeg square (leg 2 3 1)
not-beside_the_tree t = false≢true t.from

-- ---- the tour of two nodes

of-two : (P : Leg → Type 0) (a b : Leg) → P a → P b → (l : Leg) → IsAmong l (a ∷ b ∷ []) → P l
of-two P a b p q l (inl e) = subst P (sym e) p
of-two P a b p q l (inr (inl e)) = subst P (sym e) q
of-two P a b p q l (inr (inr none)) = absurd none

of-one : (P : Leg → Type 0) (a : Leg) → P a → (l : Leg) → IsAmong l (a ∷ []) → P l
of-one P a p l (inl e) = subst P (sym e) p
of-one P a p l (inr none) = absurd none

-- a machine of one of two nodes has a leg
abbrev HasLeg : ℕ → ℕ → Type 0
HasLeg v t = (l : Leg) × IsAmong l (leg 1 0 1 ∷ leg 0 1 0 ∷ []) × (l.from ≡ t) × (l.here ≡ v)

leg-at_0 : (t : ℕ) → IsTrue (is_on_tree two_nodes 0 t) → HasLeg 0 t
leg-at_0 zero on = absurd (false≢true on)
leg-at_0 (suc zero) on = (leg 1 0 1, inl refl, refl, refl)
leg-at_0 (suc (suc t)) on = absurd (grind (arith, nat_tests))

leg-at_1 : (t : ℕ) → IsTrue (is_on_tree two_nodes 1 t) → HasLeg 1 t
leg-at_1 zero on = (leg 0 1 0, inr (inl refl), refl, refl)
leg-at_1 (suc t) on = absurd (grind (arith, nat_tests))

-- both legs of two nodes turn back, and the one at the root is special
tour-of_two : IsTour two_nodes
tour-of_two = record {
  first = leg 1 0 1;
  others = leg 0 1 0 ∷ [];
  are = refl;
  closed = ((refl, refl), ((refl, refl), tt));
  tree = of-two (IsTreeLeg two_nodes) (leg 1 0 1) (leg 0 1 0)
      (record { here_in = omega arith; from = refl; onward = refl; next = refl; source = refl })
      (record { here_in = omega arith; from = refl; onward = refl; next = refl; source = refl });
  first_special = refl;
  others_not = of-one (λ l. IsFalse (is_special_leg two_nodes l)) (leg 0 1 0) refl;
  every = λ v t below on. each-node (λ u. (s : ℕ) → IsTrue (is_on_tree two_nodes u s) → HasLeg u s) leg-at_0 leg-at_1 v below t on;
  count = refl;
}

-- node 2 is joined to no node: a tree of three nodes would have four legs, and there are two
abbrev apart : Network
apart = record { nodes = 3; root = 0; capacity = 1; lease = 0; edges = (0, 1) ∷ [] }

legs-of_apart : legs apart ≡ leg 1 0 1 ∷ leg 0 1 0 ∷ []
legs-of_apart = refl

no-tour_of_apart : ¬ IsTour apart
no-tour_of_apart t = let same : ◌≡◌ {A = ℕ} 2 4 = ap length t.are ∙ t.count in absurd cc
