-- The tour and the token ring of a square, 0 - 1 - 3 - 2 - 0 with root 0: node 3 is as near
-- through 1 as through 2, and its parent is 1.
use Rattle.std.proofs.Common.{◌≡◌, ℕ, ◌+◌, ◌*◌, [], ◌∷◌, None, refl, arith}
use Rattle.run_model.proofs.RowsFaults.{square}
use Rattle.run_model.proofs.RowsTwo.{two_nodes}
use Rattle.topology.specs.Network.{Network}
use Rattle.topology.specs.declared.frame.Payload.{Payload}
use Rattle.tree_convergence.specs.lock_desk.Desk.{no_desk}
use Rattle.run_model.specs.node_core.State.{LocalState}
use Rattle.tree_convergence.specs.euler_ring.Tour.{tour}
use Rattle.run_model.specs.World.{World}
use Rattle.convergence.specs.Ring.{Leg, first_here, leg_values, legs, legs_to, token_ring}
use Rattle.convergence.specs.Moves.{head_value}

-- it comes to the root from 1, goes out to 2 and back, to 1, and through 1 out to 3 and back
the-square_is_toured : tour square ≡ ((1, 0) ∷ (0, 2) ∷ (2, 0) ∷ (0, 1) ∷ (1, 3) ∷ (3, 1) ∷ [])
the-square_is_toured = refl

abbrev says : ℕ → Payload
says ring = record { distance = 0; parent = None; ring = ring }

-- each place has its own number of three digits: the node, the neighbour, and 0 for a machine's
-- value, 1 for a staged one, 2 for a copy
abbrev numbered : ℕ → LocalState
numbered v = record {
  distance = 0;
  parent = None;
  port = λ u. record { seq = 0; last = 0; staged = says (100 * v + 10 * u + 1); copy = says (100 * v + 10 * u + 2) };
  value = λ u. 100 * v + 10 * u;
  desk = no_desk;
}

abbrev pub numbered_on : Network → World
numbered_on net = record { net = net; spares = 0; node = numbered; link = λ u v. [] }

-- node 0's machine from 1, what it has staged for 2, and 2's copy of it; then 2's machine from 0,
-- and so on round the tour
the-token_ring_follows_the_tour :
    token_ring (numbered_on square)
    ≡ (10 ∷ 21 ∷ 202 ∷ 200 ∷ 201 ∷ 22 ∷ 20 ∷ 11 ∷ 102 ∷ 100 ∷ 131 ∷ 312 ∷ 310 ∷ 311 ∷ 132 ∷ 130 ∷ 101 ∷ 12 ∷ [])
the-token_ring_follows_the_tour = refl

-- ---- legs

-- the leg that comes from a to b and goes on to c
abbrev pub leg : ℕ → ℕ → ℕ → Leg
leg a b c = record { from = a; here = b; onward = c }

-- the last pair goes on to the node that the first pair comes to, not to the one that it comes from
goes-on_to_the_first : first_here ((4, 7) ∷ (7, 4) ∷ []) ≡ 7
goes-on_to_the_first = refl

not-to_where_it_began : ¬ (first_here ((4, 7) ∷ (7, 4) ∷ []) ≡ 4)
not-to_where_it_began e = grind arith

-- each pair goes on to the node that the next pair comes to, and the last pair to the given end
each-pair_goes_on : legs_to 9 ((1, 0) ∷ (0, 2) ∷ (2, 0) ∷ []) ≡ leg 1 0 2 ∷ leg 0 2 0 ∷ leg 2 0 9 ∷ []
each-pair_goes_on = refl

-- a part of one pair has one leg, and a part without pairs has none
a-single_pair : legs_to 9 ((1, 0) ∷ []) ≡ leg 1 0 9 ∷ []
a-single_pair = refl

no-pairs : legs_to 9 [] ≡ []
no-pairs = refl

-- the three edges of the square's tree have two legs each; the last leg goes on to the root
legs-of_the_square : legs square ≡ leg 1 0 2 ∷ leg 0 2 0 ∷ leg 2 0 1 ∷ leg 0 1 3 ∷ leg 1 3 1 ∷ leg 3 1 0 ∷ []
legs-of_the_square = refl

-- on two nodes both legs turn back
legs-of_two : legs two_nodes ≡ leg 1 0 1 ∷ leg 0 1 0 ∷ []
legs-of_two = refl

-- the line 0 - 1 - 2 with root 2: the first leg comes to the root, and the last goes on to it
abbrev pub line : Network
line = record { nodes = 3; root = 2; capacity = 1; lease = 0; edges = (0, 1) ∷ (1, 2) ∷ [] }

legs-of_the_line : legs line ≡ leg 1 2 1 ∷ leg 2 1 0 ∷ leg 1 0 1 ∷ leg 0 1 2 ∷ []
legs-of_the_line = refl

not-from_node_0 : ¬ (legs line ≡ leg 1 0 1 ∷ leg 0 1 2 ∷ leg 1 2 1 ∷ leg 2 1 0 ∷ [])
not-from_node_0 e = grind arith

-- ---- the values of a leg

-- through node 0 from 1 to 2: 0's machine from 1, what 0 has staged for 2, and what 2 has copied
-- from 0
values-of_a_leg : leg_values (numbered_on square) (leg 1 0 2) ≡ 10 ∷ 21 ∷ 202 ∷ []
values-of_a_leg = refl

-- a leg that turns back
values-of_a_turn : leg_values (numbered_on square) (leg 1 3 1) ≡ 310 ∷ 311 ∷ 132 ∷ []
values-of_a_turn = refl

-- what 0 has copied itself is none of the leg's values
not-its_own_copy : ¬ (leg_values (numbered_on square) (leg 1 0 2) ≡ 10 ∷ 21 ∷ 22 ∷ [])
not-its_own_copy e = grind arith

-- ---- the head

-- the token ring begins with the values of the root's first leg, even if the root is not node 0
the-token_ring_of_the_line :
    token_ring (numbered_on line) ≡ (210 ∷ 211 ∷ 122 ∷ 120 ∷ 101 ∷ 12 ∷ 10 ∷ 11 ∷ 102 ∷ 100 ∷ 121 ∷ 212 ∷ [])
the-token_ring_of_the_line = refl

-- so the head is the root's machine
head-of_the_line : head_value (numbered_on line) ≡ 210
head-of_the_line = refl

-- the head is the root's machine from its smallest tree neighbour
head-of_the_square : head_value (numbered_on square) ≡ 10
head-of_the_square = refl

not-from_the_other_neighbour : ¬ (head_value (numbered_on square) ≡ 20)
not-from_the_other_neighbour e = grind arith
