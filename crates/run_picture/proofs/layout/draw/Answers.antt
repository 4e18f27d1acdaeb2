use Rattle.std.proofs.Common.{◌≡◌, ◌∙◌, ◌++◌, ap, subst, length}
use Rattle.run_picture.specs.Added.{Adds}
use Rattle.svg_drawing.specs.Drawn.{drawn}
use Rattle.run_picture.specs.Lanes.{AreLanes}
use Rattle.run_picture.specs.Page.{page_of, page_width}
use Rattle.run_picture.specs.Picture.{attributes_of, page_attributes}
use Rattle.run_picture.specs.Tree.{tree_shown}
use Rattle.run_picture.proofs.Picture.{drawn_run}
use Rattle.run_picture.proofs.layout.draw.Goals as goal

pub returns : goal.returns
returns c =
    let net = c.args.net.now in
    let r = c.args.recording.now in
    let page = c.new-page.result in
    let columns = c.columns-columns.result.now in
    let order = c.in_ok-order.order.items in
    let is_columns : columns ≡ r.strip.columns = c.columns-columns.ensures ∙ ap (λ s. s.columns) c.strip.ensures in
    let is_width : c.width-width.result ≡ r.strip.width = c.width-width.ensures ∙ ap (λ s. s.width) c.strip-2.ensures in
    let tree : drawn c.draw_tree.new.canvas ≡ drawn c.draw_legend.new.canvas ++ tree_shown page net order =
    c.in_ok-draw_tree.ensures ∙ ap (λ o. drawn c.draw_legend.new.canvas ++ tree_shown page net o) c.as_slice.ensures.value in
    let lanes : Adds (AreLanes page columns 0 order) (drawn c.draw_tree.new.canvas) (drawn c.draw_lanes.new.canvas) =
    subst (λ o. Adds (AreLanes page columns 0 o) (drawn c.draw_tree.new.canvas) (drawn c.draw_lanes.new.canvas)) c.as_slice-2.ensures.value
    c.in_ok-draw_lanes.ensures in
    record {
      attributes = c.in_ok-page_attributes.ensures ∙ ap (λ w. attributes_of w c.height.result.0) c.width.ensures
          ∙ ap (λ h. attributes_of (page_width page) h) c.height.ensures
          ∙ ap page_attributes (c.new-page.ensures ∙ ap (λ cs. page_of net (length cs)) is_columns);
      elements = drawn_run net r page order columns c.width-width.result c.before-before.result (drawn c.new-canvas.result)
          (drawn c.draw_head.new.canvas) (drawn c.draw_legend.new.canvas) (drawn c.draw_tree.new.canvas) (drawn c.draw_lanes.new.canvas)
          (drawn c.draw_levels.new.canvas) (drawn c.draw_curves.new.canvas) (drawn c.draw_axis.new.canvas) (drawn c.draw_ruler.new.canvas)
          c.new-page.ensures c.in_ok-order.ensures is_columns is_width c.before-before.ensures c.new-canvas.ensures c.in_ok-draw_head.ensures
          c.in_ok-draw_legend.ensures tree lanes c.in_ok-draw_levels.ensures c.in_ok-draw_curves.ensures c.in_ok-draw_axis.ensures
          c.in_ok-draw_ruler.ensures;
    }
