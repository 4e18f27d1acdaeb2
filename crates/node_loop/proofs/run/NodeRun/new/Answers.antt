use Rattle.node_connections.proofs.Loose.{loose-all}
use Rattle.node_loop.proofs.run.NodeRun.new.Goals as goal

pub invariant_of-result-clause-strangers : goal.invariant_of-result-clause-strangers
invariant_of-result-clause-strangers g c = loose-all c.args.node.registers.neighbours c.in-Ok.ports.items c.in-Ok.ensures.alone.0
