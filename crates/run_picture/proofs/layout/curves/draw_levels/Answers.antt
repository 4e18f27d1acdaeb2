use Rattle.std.proofs.Common.{◌∙◌, ◌+◌, ap}
use Rattle.svg_drawing.specs.Lengths.{px}
use Rattle.run_picture.proofs.Curves.{levels_drawn}
use Rattle.run_picture.proofs.layout.curves.draw_levels.Goals as goal

pub returns : goal.returns
returns c =
    levels_drawn _ c.args.page c.args.columns.now _ _ _ _ _ _ _ _ c.most_nodes-most.ensures c.node_height-node.ensures
    (c.add.ensures ∙ ap (λ n. px (n + 48)) c.ground.ensures) c.in_ok-draw_level.ensures c.in_ok-draw_level-2.ensures c.in_ok-draw_level-3.ensures
    c.draw_names.ensures
