use Rattle.std.proofs.Common.{◌≡◌, rules}
use Rattle.euler_ring.specs.Cycle.{source_for}
use Rattle.euler_ring.proofs.Ascending.{source_on}
use Rattle.euler_ring.proofs.neighbours.TreeNeighbours.source_for.Goals as goal

pub returns-clause-there : goal.returns-clause-there
returns-clause-there c =
    let is : c.unwrap_or.result ≡ source_for c.args.self.now c.args.w = search rules in
    rw is (source_on c.args.self.now c.args.w c.requires)
