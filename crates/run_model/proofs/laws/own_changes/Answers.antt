use Rattle.run_model.proofs.Touches.{own-node, own-link}
use Rattle.run_model.proofs.laws.own_changes.Goals as goal

pub returns-clause-node : goal.returns-clause-node
returns-clause-node c = own-node

pub returns-clause-link : goal.returns-clause-link
returns-clause-link c = own-link
