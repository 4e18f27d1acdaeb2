use Rattle.std.proofs.Common.{length}
use Rattle.topology.specs.Spread.{unreached_count}
use Rattle.topology.proofs.SearchByLevels.{IsSearch}
use Rattle.topology.proofs.graph.write_distances.Given as goal

abbrev pub invariant-loop-level : goal.invariant-loop-level
invariant-loop-level l = IsSearch l.edges l.root (length l.fn.distances) l.level l.distances

abbrev pub decreases-loop-level : goal.decreases-loop-level
decreases-loop-level l = unreached_count l.distances
