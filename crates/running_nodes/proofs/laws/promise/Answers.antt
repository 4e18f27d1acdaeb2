use Rattle.running_nodes.proofs.Whole.{runs-are, runs-keep}
use Rattle.running_nodes.proofs.laws.promise.Goals as goal

pub returns-clause-are : goal.returns-clause-are
returns-clause-are g c = runs-are g.P.Pipe.gave g.P.Pipe.took g.P.Pipe.counts c.joined.ensures.nodes c.neighbours.ensures.joined c.joined.ensures.back

pub returns-clause-keep : goal.returns-clause-keep
returns-clause-keep g c =
    runs-keep g.P.Pipe.gave g.P.Pipe.took g.P.Pipe.counts c.joined.ensures.nodes c.neighbours.ensures.joined c.joined.ensures.back c.promise_over_bytes.ensures.keep
