use Rattle.settling_plot.proofs.Parts.{three_parts}
use Rattle.settling_plot.proofs.ground.draw_ground.Goals as goal

pub returns : goal.returns
returns c = three_parts _ _ _ _ _ _ _ _ c.in_ok-draw_levels.ensures c.in_ok-draw_ticks.ensures c.draw_titles.ensures
