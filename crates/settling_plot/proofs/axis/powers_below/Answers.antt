use Rattle.std.proofs.Common.{◌≡◌, ◌∙◌, ap, arith}
use Rattle.std.proofs.lemmas.Grind.{common_steps}
use Rattle.settling_plot.specs.Axes.{powers_below}
use Rattle.settling_plot.proofs.Axes.{powers_more}
use Rattle.settling_plot.proofs.axis.powers_below.Goals as goal

pub loop-k-preserved : goal.loop-k-preserved
loop-k-preserved c =
    let more = powers_more c.args.most c.loop-k.k in
    (grind (arith, common_steps, more), grind (arith, common_steps))

pub returns-clause-count : goal.returns-clause-count
returns-clause-count c =
    let all : c.loop-k.k ≡ 32 = omega (arith, c.loop-k-test.false, c.loop-k.auto.k-end) in
    c.loop-k.invariant.0 ∙ ap (powers_below c.args.most) all
