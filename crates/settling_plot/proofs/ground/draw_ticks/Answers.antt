use Rattle.settling_plot.specs.Ground.{power_shown}
use Rattle.settling_plot.proofs.Numbers.{shown_next}
use Rattle.settling_plot.proofs.ground.draw_ticks.Goals as goal

pub loop-doublings-preserved : goal.loop-doublings-preserved
loop-doublings-preserved c =
    shown_next (power_shown c.args.axis) c.loop-doublings.doublings _ _ _ c.loop-doublings.invariant c.in_ok-draw_power.ensures
