-- Small examples, by computation: some that hold, and some that do not.
use Rattle.std.proofs.Common.{◌≡◌, ℕ, ◌==◌, List, [], ◌∷◌, Option, Some, None, true, false, if◌then◌else◌, refl, arith}
use Rattle.topology.specs.Network.{Network}
use Rattle.euler_ring.specs.Cycle.{above, below, highest, is_named, is_on, is_tree_neighbour, lowest, next_after, source_for, special, tree_neighbours}
use Rattle.euler_ring.specs.Tour.{children_of, in_order_after, tour, tour_below, tour_of_children}

-- ---- round a node with the tree neighbours 1, 4 and 9

abbrev three : List ℕ
three = 1 ∷ 4 ∷ 9 ∷ []

ends : (lowest three ≡ Some 1) × (highest three ≡ Some 9)
ends = (refl, refl)

no_ends_of_none : (lowest [] ≡ None) × (highest [] ≡ None)
no_ends_of_none = (refl, refl)

-- 4 is neither above 4 nor below it
above_and_below : (above 4 three ≡ 9 ∷ []) × (below 4 three ≡ 1 ∷ [])
above_and_below = (refl, refl)

-- after 3, which is not on the list, come those above it, and then those below
order_up_and_round : in_order_after 3 (0 ∷ 1 ∷ 4 ∷ 9 ∷ []) ≡ 4 ∷ 9 ∷ 0 ∷ 1 ∷ []
order_up_and_round = refl

-- the order does not begin with those below
order_not_from_below : ¬ (in_order_after 3 (0 ∷ 1 ∷ 4 ∷ 9 ∷ []) ≡ 0 ∷ 1 ∷ 4 ∷ 9 ∷ [])
order_not_from_below e = grind arith

-- after a number above or below them all, the order is that of the list
order_after_an_end : (in_order_after 10 three ≡ three) × (in_order_after 0 three ≡ three)
order_after_an_end = (refl, refl)

on_the_list : is_on three 4 ≡ true
on_the_list = refl

not_on_the_list : is_on three 5 ≡ false
not_on_the_list = refl

up : next_after three 1 ≡ 4
up = refl

up_again : next_after three 4 ≡ 9
up_again = refl

and_round : next_after three 9 ≡ 1
and_round = refl

down : source_for three 9 ≡ 4
down = refl

and_round_the_other_way : source_for three 1 ≡ 9
and_round_the_other_way = refl

-- after the first child it does not turn back to where it came from
not_back : ¬ (next_after three 4 ≡ 1)
not_back e = grind arith

-- the least and the greatest id follow each other
least_and_greatest : next_after (0 ∷ 63 ∷ []) 0 ≡ 63
least_and_greatest = refl

greatest_and_least : next_after (0 ∷ 63 ∷ []) 63 ≡ 0
greatest_and_least = refl

-- a single tree neighbour comes after itself
alone : next_after (5 ∷ []) 5 ≡ 5
alone = refl

the_roots_smallest : special true three ≡ Some 1
the_roots_smallest = refl

no_other_nodes : special false three ≡ None
no_other_nodes = refl

none_of_a_root_alone : special true [] ≡ None
none_of_a_root_alone = refl

-- ---- the tree neighbours of node 4 among 1, 2, 5 and 7: node 1 names it as its parent, and node 5 names another

abbrev copies : ℕ → Option ℕ
copies w = if w == 1 then Some 4 else if w == 5 then Some 2 else None

named : is_named (copies 1) 4 ≡ true
named = refl

not_named : (is_named (copies 5) 4 ≡ false) × (is_named (copies 7) 4 ≡ false)
not_named = (refl, refl)

-- 1 is a child of 4, and 2 is its parent; 5 is neither
on_the_tree : (is_tree_neighbour (Some 2) 4 copies 1 ≡ true) × (is_tree_neighbour (Some 2) 4 copies 2 ≡ true)
on_the_tree = (refl, refl)

not_on_the_tree : is_tree_neighbour (Some 2) 4 copies 5 ≡ false
not_on_the_tree = refl

parent_and_child : tree_neighbours (Some 2) 4 (1 ∷ 2 ∷ 5 ∷ 7 ∷ []) copies ≡ 1 ∷ 2 ∷ []
parent_and_child = refl

a_parent_that_is_no_neighbour : tree_neighbours (Some 9) 4 (1 ∷ 2 ∷ 5 ∷ 7 ∷ []) copies ≡ 1 ∷ []
a_parent_that_is_no_neighbour = refl

-- ---- tours

-- the square 0-1, 0-2, 1-3, 2-3: node 3 is as far from 1 as from 2, and its parent is 1
abbrev square : Network
square = record { nodes = 4; root = 0; capacity = 1; lease = 0; edges = (0, 1) ∷ (0, 2) ∷ (1, 3) ∷ (2, 3) ∷ [] }

square_tour : tour square ≡ (1, 0) ∷ (0, 2) ∷ (2, 0) ∷ (0, 1) ∷ (1, 3) ∷ (3, 1) ∷ []
square_tour = refl

-- it does not turn back to the root before it was at node 3
square_tour_goes_down : ¬ (tour square ≡ (1, 0) ∷ (0, 2) ∷ (2, 0) ∷ (0, 1) ∷ [])
square_tour_goes_down e = grind arith

-- the line 0-1-2 from its middle, and from its end
abbrev line_from : ℕ → Network
line_from root = record { nodes = 3; root = root; capacity = 1; lease = 0; edges = (0, 1) ∷ (1, 2) ∷ [] }

from_the_middle : tour (line_from 1) ≡ (0, 1) ∷ (1, 2) ∷ (2, 1) ∷ (1, 0) ∷ []
from_the_middle = refl

from_the_end : tour (line_from 2) ≡ (1, 2) ∷ (2, 1) ∷ (1, 0) ∷ (0, 1) ∷ []
from_the_end = refl

-- node 3 hangs below the root 2 and has the children 0, 1 and 4: after its parent come 4, then 0
-- and 1
abbrev bent : Network
bent = record { nodes = 5; root = 2; capacity = 1; lease = 0; edges = (2, 3) ∷ (3, 1) ∷ (3, 4) ∷ (3, 0) ∷ [] }

after_the_parent_up_and_round : tour bent ≡ (3, 2) ∷ (2, 3) ∷ (3, 4) ∷ (4, 3) ∷ (3, 0) ∷ (0, 3) ∷ (3, 1) ∷ (1, 3) ∷ []
after_the_parent_up_and_round = refl

-- ---- the parts of a tour

-- node 2 is joined to 0, 1 and 3, and node 4 hangs on 1
abbrev deep_from : ℕ → Network
deep_from r = record { nodes = 5; root = r; capacity = 1; lease = 0; edges = (2, 3) ∷ (2, 1) ∷ (4, 1) ∷ (2, 0) ∷ [] }

-- the children ascend, also if the edges do not
children_ascend : children_of (deep_from 2) 2 ≡ 0 ∷ 1 ∷ 3 ∷ []
children_ascend = refl

-- from the root 1 the neighbour 1 is node 2's parent, and not its child
parent_is_no_child : children_of (deep_from 1) 2 ≡ 0 ∷ 3 ∷ []
parent_is_no_child = refl

-- node 3 of the square is one farther than both its neighbours, and a child of the smaller alone
child_of_the_smaller : (children_of square 1 ≡ 3 ∷ []) × (children_of square 2 ≡ [])
child_of_the_smaller = (refl, refl)

not_child_of_the_larger : ¬ (children_of square 2 ≡ 3 ∷ [])
not_child_of_the_larger e = grind arith

-- what is below node 1 is node 2, which is entered from 1: after 1 come 3 and then 0
below_in_order : tour_below 2 (deep_from 4) 1 4 ≡ (1, 2) ∷ (2, 3) ∷ (3, 2) ∷ (2, 0) ∷ (0, 2) ∷ (2, 1) ∷ []
below_in_order = refl

-- the order is not that after 4, from which node 1 is entered
below_not_ascending : ¬ (tour_below 2 (deep_from 4) 1 4 ≡ (1, 2) ∷ (2, 0) ∷ (0, 2) ∷ (2, 3) ∷ (3, 2) ∷ (2, 1) ∷ [])
below_not_ascending e = grind arith

-- it goes through all that is below the child 1 before it goes to the child 3
below_each_child : tour_below 5 (deep_from 0) 2 0 ≡ (2, 1) ∷ (1, 4) ∷ (4, 1) ∷ (1, 2) ∷ (2, 3) ∷ (3, 2) ∷ []
below_each_child = refl

-- a bound of 1 admits the children alone, and 0 admits nothing
below_within_the_bound : (tour_below 1 (deep_from 4) 1 4 ≡ (1, 2) ∷ (2, 1) ∷ []) × (tour_below 0 (deep_from 4) 1 4 ≡ [])
below_within_the_bound = (refl, refl)

-- nothing is below a leaf
below_a_leaf : tour_below 5 (deep_from 4) 3 2 ≡ []
below_a_leaf = refl

-- from the first child, 0, to the root 2, through 1 and what is below it, through 3, and at last to 0
from_the_first_child : tour_of_children (deep_from 2) (0 ∷ 1 ∷ 3 ∷ [])
    ≡ (0, 2) ∷ (2, 1) ∷ (1, 4) ∷ (4, 1) ∷ (1, 2) ∷ (2, 3) ∷ (3, 2) ∷ (2, 0) ∷ []
from_the_first_child = refl

-- it begins from the first of these children, and what is below that one comes last
below_the_first_child_last : tour_of_children (deep_from 2) (1 ∷ 3 ∷ [])
    ≡ (1, 2) ∷ (2, 3) ∷ (3, 2) ∷ (2, 1) ∷ (1, 4) ∷ (4, 1) ∷ []
below_the_first_child_last = refl

-- it does not begin with the way down to the first child
not_down_first : ¬ (tour_of_children (deep_from 2) (1 ∷ []) ≡ (2, 1) ∷ (1, 4) ∷ (4, 1) ∷ (1, 2) ∷ [])
not_down_first e = grind arith

-- a root without children has no tour
from_no_child : tour_of_children (deep_from 2) [] ≡ []
from_no_child = refl
