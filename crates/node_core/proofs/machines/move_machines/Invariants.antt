use Rattle.node_core.proofs.Moves.{IsMovedUpTo}
use Rattle.node_core.proofs.machines.move_machines.Given as goal

abbrev pub invariant-loop-place : goal.invariant-loop-place
invariant-loop-place g l = IsMovedUpTo l.fn.registers l.registers l.tree l.chosen l.place
