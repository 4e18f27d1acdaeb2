use Rattle.std.proofs.Common.{◌≡◌, length, replicate, take}
use Rattle.topology.specs.Spread.{unreached}
use Rattle.topology.proofs.graph.forget.Given as goal

abbrev pub invariant-loop-v : goal.invariant-loop-v
invariant-loop-v l = (length l.distances ≡ length l.fn.distances) × (take l.v l.distances ≡ replicate l.v unreached)
