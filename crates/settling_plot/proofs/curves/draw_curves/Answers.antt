use Rattle.settling_plot.proofs.Parts.{four_parts}
use Rattle.settling_plot.proofs.curves.draw_curves.Goals as goal

pub returns : goal.returns
returns c =
    let is = c.scale_of-scale.ensures in
    four_parts _ _ _ _ _ _ _ _ _ _ (rw is at c.in_ok-draw_curve.ensures) (rw is at c.in_ok-draw_curve-2.ensures)
    (rw is at c.in_ok-draw_curve-3.ensures) (rw is at c.draw_curve-4.ensures)
