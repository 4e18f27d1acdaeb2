use Rattle.std.proofs.Common.{length}
use Rattle.network_hints.proofs.values.+first_twice.Given as goal

abbrev pub decreases-first_twice : goal.decreases-first_twice
decreases-first_twice l = length l.edges.now
