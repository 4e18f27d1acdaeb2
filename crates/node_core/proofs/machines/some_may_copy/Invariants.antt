use Rattle.std.proofs.Common.{◌≡◌, ◌&&◌, false, None, take}
use Rattle.std.specs.List.{list_any}
use Rattle.registers.specs.Registers.{port_of}
use Rattle.euler_ring.specs.Cycle.{is_tree_neighbour}
use Rattle.node_core.specs.OnRegisters.{machine_may_move}
use Rattle.node_core.proofs.machines.some_may_copy.Given as goal

abbrev pub invariant-loop-t : goal.invariant-loop-t
invariant-loop-t g l =
    list_any (λ w. is_tree_neighbour l.parent l.id (λ u. (port_of l.registers u).copy.parent) w && machine_may_move l.registers None w)
    (take l.t-index l.registers.neighbours) ≡ false
