use Rattle.std.proofs.Common.{◌<◌, length, arith}
use Rattle.std.proofs.lemmas.Grind.{common_steps}
use Rattle.run_picture.specs.Tree.{edge_shown}
use Rattle.run_picture.proofs.Drawn.{shown_next}
use Rattle.run_picture.proofs.layout.tree.draw_edges.Goals as goal

pub loop-edge-preserved : goal.loop-edge-preserved
loop-edge-preserved c =
    let within : c.loop-edge.edge-index < length c.args.edges.now = grind (arith, common_steps) in
    shown_next (edge_shown c.args.page c.args.net.now c.args.order.now) c.args.edges.now c.loop-edge.edge-index _ _ _ _ within c.loop-edge.invariant
    c.in_ok-draw_edge.ensures
