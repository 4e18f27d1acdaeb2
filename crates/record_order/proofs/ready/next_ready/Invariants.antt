use Rattle.record_order.proofs.Earliest.{IsSoFar}
use Rattle.record_order.proofs.ready.next_ready.Given as goal

abbrev pub invariant-loop-node : goal.invariant-loop-node
invariant-loop-node l = IsSoFar l.read l.heads l.node l.first
