use Rattle.std.proofs.Common.{arith}
use Rattle.std.proofs.lemmas.Grind.{common_steps}
use Rattle.settling_plot.proofs.Axes.{place_more}
use Rattle.settling_plot.proofs.axis.place_of.Goals as goal

pub loop-k-preserved : goal.loop-k-preserved
loop-k-preserved c =
    let more = place_more c.args.step c.loop-k.k c.args.sweeps in
    (grind (arith, common_steps, more), grind (arith, common_steps))
