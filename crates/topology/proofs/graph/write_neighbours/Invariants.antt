use Rattle.std.proofs.Common.{◌≡◌}
use Rattle.std.specs.Vec.{vec_capacity}
use Rattle.topology.specs.Network.{neighbours_in}
use Rattle.topology.proofs.graph.write_neighbours.Given as goal

abbrev pub invariant-loop-w : goal.invariant-loop-w
invariant-loop-w g l = (l.row.items ≡ neighbours_in l.w l.edges l.v) × (vec_capacity l.row ≡ vec_capacity l.fn.row)
