use Rattle.node_connections.proofs.Pushing.{pushed-on}
use Rattle.node_connections.proofs.port.NodePort.push_out.Goals as goal

pub returns-clause-line : goal.returns-clause-line
returns-clause-line g c = pushed-on g.P.Pipe.took g.P.Pipe.gave g.P.Pipe.counts c.args.self.now.link c.push_out.new.self c.push_out.result c.push_out.ensures.pushed
