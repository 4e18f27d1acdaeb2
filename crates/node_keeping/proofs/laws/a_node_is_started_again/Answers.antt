use Rattle.node_keeping.proofs.Keeping.{again, left_alone}
use Rattle.node_keeping.proofs.laws.a_node_is_started_again.Goals as goal

pub returns-clause-again : goal.returns-clause-again
returns-clause-again c = again

pub returns-clause-left : goal.returns-clause-left
returns-clause-left c = left_alone
