use Rattle.running_nodes.proofs.Joining.{ends-connect}
use Rattle.running_nodes.proofs.laws.ends.Goals as goal

pub returns : goal.returns
returns g c = ends-connect g.P.Pipe.gave g.P.Pipe.took
