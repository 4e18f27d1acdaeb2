use Rattle.std.proofs.Common.{◌≡◌, ◌∙◌, ◌++◌, ap, Ok}
use Rattle.svg_drawing.specs.Drawn.{drawn}
use Rattle.settling_plot.specs.Axes.{axis_to}
use Rattle.settling_plot.specs.Plot.{plot_over}
use Rattle.settling_plot.proofs.Parts.{five_parts}
use Rattle.settling_plot.proofs.plot.draw.Goals as goal

pub returns : goal.returns
returns c =
    let f = c.args.figure.now in
    let axis = c.to-axis.result in
    let is_axis = c.to-axis.ensures.axis ∙ ap axis_to c.last_bound.ensures in
    let all : drawn c.draw_legend.new.canvas ≡ drawn c.new-canvas.result ++ plot_over axis f =
    five_parts {T = Unit {0}} {E = Unit {0}} (Ok tt) _ _ _ _ _ _ _ _ _ _ _ c.in_ok-draw_heading.ensures c.in_ok-draw_ground.ensures
    c.in_ok-draw_limits.ensures c.in_ok-draw_curves.ensures c.in_ok-draw_legend.ensures in
    record {
      attributes = c.in_ok-page_attributes.ensures;
      elements = all ∙ ap (λ xs. xs ++ plot_over axis f) c.new-canvas.ensures ∙ ap (λ a. plot_over a f) is_axis;
    }
