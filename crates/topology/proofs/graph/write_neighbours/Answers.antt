use Rattle.std.proofs.Common.{arith, ◌≤◌, length}
use Rattle.topology.proofs.RowsWritten.{neighbours_few, neighbours_more_yes, neighbours_more_no}
use Rattle.topology.proofs.graph.write_neighbours.Goals as goal
use Rattle.topology.proofs.graph.write_neighbours.Goals.{then-are_joined, else-are_joined}

pub push_reserved-requires : goal.push_reserved-requires
push_reserved-requires g c =
    let few : length c.loop-w.row.items ≤ c.loop-w.w = rw c.loop-w.invariant.0 (neighbours_few c.args.edges.now c.args.v c.loop-w.w) in
    omega (arith, few, c.loop-w.invariant.1, c.loop-w.row.ok.0, c.requires)

pub loop-w-preserved : goal.loop-w-preserved
loop-w-preserved g c =
    let few : length c.loop-w.row.items ≤ c.loop-w.w = rw c.loop-w.invariant.0 (neighbours_few c.args.edges.now c.args.v c.loop-w.w) in
    elim c.if-are_joined.branch [
      | then-are_joined w ↦ rw (w.row-is, w.push_reserved.ensures.items, c.loop-w.invariant.0) (neighbours_more_yes c.args.edges.now c.args.v c.loop-w.w w.if-are_joined.ensures, omega (arith, w.push_reserved.ensures.capacity, c.loop-w.invariant.1, few))
      | else-are_joined w ↦ rw w.row-is (rw c.loop-w.invariant.0 (neighbours_more_no c.args.edges.now c.args.v c.loop-w.w w.if-are_joined.ensures), c.loop-w.invariant.1)
    ]
