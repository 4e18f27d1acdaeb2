-- Which machine is counted, and whether it moves, by hand.
use Rattle.std.proofs.Common.{◌≡◌, ℕ, ◌+◌, true, false, [], ◌∷◌, Option, None, Some, refl, arith}
use Rattle.node_core.specs.Site.{Site}
use Rattle.node_core.specs.State.{LocalState, default_node}
use Rattle.look_window.specs.Counted.{counted_machine, counted_port, machine_from, parent_or}
use Rattle.look_window.specs.Laws.{is_moved}

-- the one from the parent, and from the least neighbour without one
from-parent : parent_or (Some 4) (Some 2) ≡ Some 4
from-parent = refl

from-least : parent_or None (Some 2) ≡ Some 2
from-least = refl

from-nobody : parent_or None None ≡ None
from-nobody = refl

-- node 1 between 0 and 2; its machine from each has its own value
abbrev middle : Site
middle = record { id = 1; is_root = false; ranges = record { nodes = 3; counter = 5; ring = 13 }; lease = 0; neighbours = 0 ∷ 2 ∷ [] }

abbrev below : Option ℕ → LocalState
below parent = record (default_node middle.ranges) { parent = parent; value = λ t. t + 4 }

port-parent : counted_port middle (below (Some 2)) ≡ Some 2
port-parent = refl

port-least : counted_port middle (below None) ≡ Some 0
port-least = refl

port_not-least : ¬ (counted_port middle (below (Some 2)) ≡ Some 0)
port_not-least e = grind (arith, e)

machine-there : machine_from (below None) 2 ≡ record { port = 2; value = 6 }
machine-there = refl

machine-parent : counted_machine middle (below (Some 2)) ≡ Some (record { port = 2; value = 6 })
machine-parent = refl

machine_not-alone : counted_machine (record middle { neighbours = [] }) (below None) ≡ None
machine_not-alone = refl

-- the root of two; its neighbour says that it is its child, and has this ring value
abbrev root : Site
root = record { id = 0; is_root = true; ranges = record { nodes = 2; counter = 5; ring = 7 }; lease = 0; neighbours = 1 ∷ [] }

abbrev above : ℕ → LocalState
above ring = record (default_node root.ranges) {
  port = λ w. record ((default_node root.ranges).port w) { copy = record { distance = 1; parent = Some 0; ring = ring } };
}

-- the root's machine moves if it sees its own value, 0
moves : is_moved root (above 0) 1 ≡ true
moves = refl

moves_not-other : is_moved root (above 3) 1 ≡ false
moves_not-other = refl

-- not while the node lends, as it does after this tick to ticket 9, which waited
moves_not-lending : is_moved root (record (above 0) { desk = record { waiting = 9 ∷ []; lent = None; left = 0; served = false } }) 1 ≡ false
moves_not-lending = refl

-- nor if the neighbour is not on the tree
moves_not-off : is_moved root (default_node root.ranges) 1 ≡ false
moves_not-off = refl
