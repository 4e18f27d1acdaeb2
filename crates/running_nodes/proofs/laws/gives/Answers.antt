use Rattle.running_nodes.proofs.Repeating.{ports-are-given}
use Rattle.running_nodes.proofs.laws.gives.Goals as goal

pub returns : goal.returns
returns g c = ports-are-given g.P.Pipe.gave g.P.Pipe.took g.P.Pipe.counts
