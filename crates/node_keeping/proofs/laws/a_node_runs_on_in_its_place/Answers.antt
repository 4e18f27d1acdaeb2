use Rattle.node_keeping.proofs.AfterSaving.{runs_on}
use Rattle.node_keeping.proofs.laws.a_node_runs_on_in_its_place.Goals as goal

pub returns-clause-on : goal.returns-clause-on
returns-clause-on c = runs_on
