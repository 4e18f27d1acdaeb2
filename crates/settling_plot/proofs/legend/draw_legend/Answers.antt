use Rattle.settling_plot.proofs.Parts.{four_parts}
use Rattle.settling_plot.proofs.legend.draw_legend.Goals as goal

pub returns : goal.returns
returns c =
    four_parts _ _ _ _ _ _ _ _ _ _ c.in_ok-draw_entry.ensures c.in_ok-draw_entry-2.ensures c.in_ok-draw_entry-3.ensures c.draw_entry-4.ensures
