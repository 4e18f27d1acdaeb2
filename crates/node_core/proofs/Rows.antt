-- Two nodes, and what they are and do.
use Rattle.std.proofs.Common.{◌≡◌, ℕ, true, false, [], ◌∷◌, Some, None, refl, arith, codes, decimal}
use Rattle.std.proofs.lemmas.Fmt.{decimal_digit}
use Rattle.registers.specs.topology.Network.{Network}
use Rattle.registers.specs.topology.Ranges.{ranges_of}
use Rattle.registers.specs.topology.declared.frame.Frame.{Frame}
use Rattle.data_link.specs.link_model.declared.item.Item.TheVariants as item
use Rattle.registers.specs.data_link.Port.{default_port}
use Rattle.lock_desk.specs.Desk.{no_desk}
use Rattle.node_core.specs.Site.{Site, site_of}
use Rattle.node_core.specs.State.{LocalState, default_node}
use Rattle.node_core.specs.Machines.{before, is_node_privileged, is_special, may_move, moved_value, payload_for, ring_for, tree_of}
use Rattle.node_core.specs.Step.{copied_distance, desk_done, heard, item_fits, machines_moved, recomputed, taken, ticked}
use Rattle.node_core.specs.Rewire.{rewired}
use Rattle.node_core.specs.Writes.{own_fits}
use Rattle.node_core.specs.Status.{status_line}

abbrev two : Network
two = record { nodes = 2; root = 0; capacity = 1; lease = 0; edges = (0, 1) ∷ [] }

abbrev near : Site
near = site_of two 0

abbrev far : Site
far = site_of two 1

site_of_far : far ≡ record { id = 1; is_root = false; ranges = record { nodes = 2; counter = 5; ring = 7 }; lease = 0; neighbours = 0 ∷ [] }
site_of_far = refl

-- the root of the reached tree: its neighbour's copy names it, and says the ring value x
abbrev root_with : ℕ → ℕ → LocalState
root_with value x = record {
  distance = 0;
  parent = None;
  port = λ w. record (default_port (ranges_of two)) { copy = record { distance = 1; parent = Some 0; ring = x } };
  value = λ w. value;
  desk = no_desk;
}

-- its child
abbrev child_with : ℕ → ℕ → LocalState
child_with value x = record {
  distance = 1;
  parent = Some 0;
  port = λ w. record (default_port (ranges_of two)) { copy = record { distance = 0; parent = None; ring = x } };
  value = λ w. value;
  desk = no_desk;
}

-- a node that knows nothing has no tree neighbour, and no machine that might move
nothing_known : tree_of far (default_node (ranges_of two)) ≡ []
nothing_known = refl

nothing_moves : is_node_privileged far (default_node (ranges_of two)) ≡ false
nothing_moves = refl

tree_of_root : tree_of near (root_with 3 3) ≡ 1 ∷ []
tree_of_root = refl

-- the root's machine may move if it sees its own value, and goes on by one; the child's if it sees
-- a different one
root_may : is_node_privileged near (root_with 3 3) ≡ true
root_may = refl

root_may_not : is_node_privileged near (root_with 3 4) ≡ false
root_may_not = refl

root_wraps : moved_value near (root_with 6 6) 1 ≡ 0
root_wraps = refl

child_may : is_node_privileged far (child_with 3 4) ≡ true
child_may = refl

child_may_not : is_node_privileged far (child_with 3 3) ≡ false
child_may_not = refl

-- machine by machine: the special one is the root's, and each sees the copied value
special_at_root : is_special near (root_with 3 3) 1 ≡ true
special_at_root = refl

none_at_child : is_special far (child_with 3 3) 0 ≡ false
none_at_child = refl

sees : before (root_with 3 5) 1 ≡ 5
sees = refl

sees_not_itself : ¬ (before (root_with 3 5) 1 ≡ 3)
sees_not_itself e = grind (arith, e)

machines_may : (may_move near (root_with 3 3) 1 ≡ true) × (may_move far (child_with 3 4) 0 ≡ true)
machines_may = (refl, refl)

machines_may_not : (may_move near (root_with 3 4) 1 ≡ false) × (may_move far (child_with 3 3) 0 ≡ false)
machines_may_not = (refl, refl)

-- a tick moves it
root_moved_on : (ticked near (root_with 3 3)).value 1 ≡ 4
root_moved_on = refl

child_copied : (ticked far (child_with 3 4)).value 0 ≡ 4
child_copied = refl

-- but not if the node lends after it: a ticket that waits borrows, and the machine stands still
abbrev asked_for : LocalState → LocalState
asked_for s = record s { desk = record no_desk { waiting = 9 ∷ [] } }

lending_stays : (ticked near (asked_for (root_with 3 3))).value 1 ≡ 3
lending_stays = refl

lending_lends : (ticked near (asked_for (root_with 3 3))).desk.lent ≡ Some 9
lending_lends = refl

-- distance and parent are computed again in a tick: a child that believed in the distance 2 and no
-- parent
child_finds_its_way : (ticked far (record (child_with 0 0) { distance = 2; parent = None })).distance ≡ 1
child_finds_its_way = refl

child_finds_its_parent : (ticked far (record (child_with 0 0) { distance = 2; parent = None })).parent ≡ Some 0
child_finds_its_parent = refl

-- part by part: distance and parent follow from the copies alone
copied_from_each : (copied_distance (child_with 3 4) 0 ≡ 0) × (copied_distance (root_with 3 4) 1 ≡ 1)
copied_from_each = (refl, refl)

first_part : recomputed far (record (child_with 0 0) { distance = 2; parent = None }) ≡ child_with 0 0
first_part = refl

first_part_lends_not : (recomputed near (asked_for (root_with 3 3))).desk.lent ≡ None
first_part_lends_not = refl

-- the desk lends to a ticket that waits, if the node is privileged
second_part : (desk_done near (asked_for (root_with 3 3))).desk.lent ≡ Some 9
second_part = refl

second_part_not_without : (desk_done near (asked_for (root_with 3 4))).desk.lent ≡ None
second_part_not_without = refl

-- the machines move if nobody borrows then
last_part : (machines_moved near (root_with 3 3)).value 1 ≡ 4
last_part = refl

last_part_not_lending : (machines_moved near (record (root_with 3 3) { desk = record no_desk { lent = Some 9 } })).value 1 ≡ 3
last_part_not_lending = refl

-- what is said: with the machine's value to a tree neighbour, with 0 to any other
root_says : payload_for near (root_with 3 4) 1 ≡ record { distance = 0; parent = None; ring = 3 }
root_says = refl

says_its_value : ring_for near (root_with 3 4) 1 ≡ 3
says_its_value = refl

says_zero_to_others : ring_for far (record (child_with 3 4) { parent = None }) 0 ≡ 0
says_zero_to_others = refl

stranger_hears_zero : (payload_for far (record (child_with 3 4) { parent = None }) 0).ring ≡ 0
stranger_hears_zero = refl

noise_changes_nothing : taken far 0 item.Noise (child_with 3 4) ≡ child_with 3 4
noise_changes_nothing = refl

-- a frame of the root with a distance; on two nodes 2 is the greatest
abbrev frame_with : ℕ → Frame
frame_with distance = record { seq = 1; ack = 4; payload = record { distance = distance; parent = None; ring = 6 } }

items_fit : (item_fits (ranges_of two) (item.Frame (frame_with 2)) ≡ true) × (item_fits (ranges_of two) item.Noise ≡ true)
items_fit = (refl, refl)

item_fits_not : item_fits (ranges_of two) (item.Frame (frame_with 3)) ≡ false
item_fits_not = refl

-- distance 2 is the greatest on two nodes, and the parent is one of them, or none
own_fit : (own_fits (ranges_of two) 2 (Some 1) ≡ true) × (own_fits (ranges_of two) 0 None ≡ true)
own_fit = (refl, refl)

-- neither a greater distance fits, nor a parent that is no node
own_fit_not : (own_fits (ranges_of two) 3 (Some 1) ≡ false) × (own_fits (ranges_of two) 2 (Some 2) ≡ false)
own_fit_not = (refl, refl)

-- a frame is heard at the port of its neighbour, and at no other
heard_there : ((heard far 0 (frame_with 2) (child_with 3 4)).port 0).copy ≡ (frame_with 2).payload
heard_there = refl

heard_nowhere_else : (heard far 0 (frame_with 2) (child_with 3 4)).port 2 ≡ (child_with 3 4).port 2
heard_nowhere_else = refl

frame_is_copied : ((taken far 0 (item.Frame (frame_with 2)) (child_with 3 4)).port 0).copy ≡ (frame_with 2).payload
frame_is_copied = refl

frame_out_of_range_changes_nothing : taken far 0 (item.Frame (frame_with 3)) (child_with 3 4) ≡ child_with 3 4
frame_out_of_range_changes_nothing = refl

-- a child that loses its only neighbour drops the value from there, and still names it as its
-- parent; one that gets another keeps it
value_dropped : (rewired (ranges_of two) (0 ∷ []) [] (child_with 3 4)).value 0 ≡ 0
value_dropped = refl

parent_kept : (rewired (ranges_of two) (0 ∷ []) [] (child_with 3 4)).parent ≡ Some 0
parent_kept = refl

value_kept : (rewired (ranges_of two) (0 ∷ []) (0 ∷ 2 ∷ []) (child_with 3 4)).value 0 ≡ 3
value_kept = refl

new_port_is_default : (rewired (ranges_of two) (0 ∷ []) (0 ∷ 2 ∷ []) (child_with 3 4)).port 2 ≡ default_port (ranges_of two)
new_port_is_default = refl

-- the line of the root after its first tick
line : status_line near (root_with 0 0) ≡ codes "node 0 distance 0 parent none token yes lent none waiting 0\n"
line = let digit : decimal 0 ≡ 48 ∷ [] = decimal_digit 0 (omega arith) in rw digit
