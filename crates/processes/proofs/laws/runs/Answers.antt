use Rattle.processes.proofs.Order.{have-order}
use Rattle.processes.proofs.Promise.{orders-run}
use Rattle.processes.proofs.laws.runs.Goals as goal

pub returns-clause-order : goal.returns-clause-order
returns-clause-order c = have-order c.joined.ensures.nodes

pub returns-clause-run : goal.returns-clause-run
returns-clause-run c = orders-run c.neighbours.ensures.joined c.joined.ensures.back c.joined.ensures.nodes
