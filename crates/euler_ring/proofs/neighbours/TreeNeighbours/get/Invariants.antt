use Rattle.std.proofs.Common.{◌≡◌, drop}
use Rattle.euler_ring.specs.Mask.{ids_of}
use Rattle.euler_ring.proofs.neighbours.TreeNeighbours.get.Given as goal

-- the first ids are taken out
abbrev pub invariant-loop : goal.invariant-loop
invariant-loop l = ids_of l.rest ≡ drop l.counter l.fn.self
