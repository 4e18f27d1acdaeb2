use Rattle.std.proofs.Common.{◌≤◌, ◌*◌, arith}
use Rattle.settling_plot.proofs.Axes.{product_few}
use Rattle.settling_plot.proofs.axis.share_of.Goals as goal

pub overflow_mul-product : goal.overflow_mul-product
overflow_mul-product c =
    let few : c.from.result * c.args.beyond ≤ c.args.power * 640 =
    product_few c.from.result c.args.beyond c.args.power (omega (arith, c.requires.step)) c.requires.beyond in
    omega (arith, few, c.requires.few)
