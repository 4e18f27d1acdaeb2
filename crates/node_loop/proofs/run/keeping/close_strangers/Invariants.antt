use Rattle.node_connections.proofs.Loose.{AreClosed}
use Rattle.node_loop.proofs.run.keeping.close_strangers.Given as goal

abbrev pub invariant-loop-id : goal.invariant-loop-id
invariant-loop-id g l = AreClosed l.fn.node.registers.neighbours l.fn.ports.items l.ports.items l.id
