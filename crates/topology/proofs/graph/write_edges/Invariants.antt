use Rattle.std.proofs.Common.{◌≡◌, take}
use Rattle.std.specs.Vec.{vec_capacity}
use Rattle.topology.proofs.graph.write_edges.Given as goal

abbrev pub invariant-loop-edge : goal.invariant-loop-edge
invariant-loop-edge g l = (l.list.items ≡ take l.edge-index l.edges) × (vec_capacity l.list ≡ vec_capacity l.fn.list)
