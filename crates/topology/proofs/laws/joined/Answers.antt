use Rattle.topology.proofs.Joined.{joined_nodes, not_to_itself}
use Rattle.topology.proofs.laws.joined.Goals as goal

pub returns-clause-nodes : goal.returns-clause-nodes
returns-clause-nodes c = joined_nodes

pub returns-clause-not_to_itself : goal.returns-clause-not_to_itself
returns-clause-not_to_itself c = λ net v ok. not_to_itself net.edges net.nodes v ok.limits.edges_in
