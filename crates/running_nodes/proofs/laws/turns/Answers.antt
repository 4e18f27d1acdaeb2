use Rattle.running_nodes.proofs.Turning.{turns-lead, turns-go}
use Rattle.running_nodes.proofs.laws.turns.Goals as goal

pub returns-clause-lead : goal.returns-clause-lead
returns-clause-lead g c = turns-lead g.P.Pipe.gave g.P.Pipe.took g.P.Pipe.counts

pub returns-clause-connections : goal.returns-clause-connections
returns-clause-connections g c = turns-go g.P.Pipe.gave g.P.Pipe.took g.P.Pipe.counts
