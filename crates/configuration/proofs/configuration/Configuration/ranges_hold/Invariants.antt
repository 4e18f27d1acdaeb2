use Rattle.configuration.proofs.WorldRanges.{AreInRange}
use Rattle.configuration.proofs.configuration.Configuration.ranges_hold.Given as goal

abbrev pub invariant-loop-v : goal.invariant-loop-v
invariant-loop-v g l = AreInRange (record { nodes = l.self.nodes; links = l.self.links }) l.v
