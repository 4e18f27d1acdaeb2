use Rattle.std.proofs.Common.{◌∙◌, ap}
use Rattle.run_picture.specs.Curves.{node_height}
use Rattle.run_picture.proofs.Curves.{both_drawn}
use Rattle.run_picture.proofs.layout.curves.draw_curves.Goals as goal

pub returns : goal.returns
returns c =
    both_drawn _ c.args.page c.args.columns.now _ _ _ _ _ _ (c.node_height-node.ensures ∙ ap node_height c.most_nodes.ensures)
    (c.as_str.ensures.value ∙ c.in_ok-privileged.ensures) (c.as_str-2.ensures.value ∙ c.in_ok-lending.ensures)
    c.in_ok-path.ensures c.path-2.ensures
