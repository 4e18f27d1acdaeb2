use Rattle.configuration.proofs.NewNodes.{AreNew}
use Rattle.configuration.proofs.configuration.new_nodes.Given as goal

abbrev pub invariant-loop-id : goal.invariant-loop-id
invariant-loop-id g l = AreNew l.net l.nodes.items l.id
