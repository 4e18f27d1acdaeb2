use Rattle.std.proofs.Common.{ap}
use Rattle.node_recorder.proofs.recorder.NodeRecorder.wrote.Goals as goal

pub returns : goal.returns
returns g c = record {
  full = c.wrote.ensures.full;
  after = ap (λ p. record c.args.self.now { pages = p }) c.wrote.ensures.after;
}
