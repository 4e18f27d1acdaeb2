use Rattle.std.proofs.Common.{arith}
use Rattle.network_kinds.proofs.Members.{edges_more}
use Rattle.network_kinds.proofs.text.edge_values.Goals as goal

pub loop-edge-preserved : goal.loop-edge-preserved
loop-edge-preserved c =
    edges_more c.loop-edge.values.items _ _ c.args.edges.now c.loop-edge.edge-index (0, 0) c.in_ok-push.ensures.items c.loop-edge.invariant c.in_ok-edge_value.ensures
    (omega arith)
