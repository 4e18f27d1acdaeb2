use Rattle.std.proofs.Common.{◌≡◌, ◌&&◌, false, take}
use Rattle.std.specs.List.{list_any}
use Rattle.euler_ring.specs.Cycle.{is_on}
use Rattle.node_core.specs.OnRegisters.{machine_may_move}
use Rattle.node_core.proofs.machines.some_may_move.Given as goal

abbrev pub invariant-loop-t : goal.invariant-loop-t
invariant-loop-t g l = list_any (λ w. is_on l.tree w && machine_may_move l.registers l.chosen w) (take l.t-index l.registers.neighbours) ≡ false
