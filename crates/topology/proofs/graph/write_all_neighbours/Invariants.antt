use Rattle.std.proofs.Common.{◌≡◌, ◌≤◌, All, length, map, take}
use Rattle.std.specs.List.{range_with_len}
use Rattle.std.specs.Vec.{vec_capacity}
use Rattle.topology.specs.Network.{neighbours_in}
use Rattle.topology.specs.Layout.{rows_of}
use Rattle.topology.proofs.graph.write_all_neighbours.Given as goal

abbrev pub invariant-loop-v : goal.invariant-loop-v
invariant-loop-v g l =
    (length l.rows ≡ l.nodes)
    × All (λ row. l.nodes ≤ vec_capacity row) l.rows
    × (rows_of (take l.v l.rows) ≡ map (neighbours_in l.nodes l.edges) (range_with_len 0 l.v))
