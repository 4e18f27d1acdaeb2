use Rattle.settling_plot.proofs.Parts.{four_parts}
use Rattle.settling_plot.proofs.limits.draw_limits.Goals as goal

pub returns : goal.returns
returns c =
    four_parts _ _ _ _ _ _ _ _ _ _ c.in_ok-draw_limit.ensures c.in_ok-draw_limit-2.ensures c.in_ok-draw_limit-3.ensures c.draw_limit-4.ensures
