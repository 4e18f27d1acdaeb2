use Rattle.experiments.proofs.Stretches.{by-stretch}
use Rattle.experiments.proofs.measured_run.give_stretches.Goals as goal

pub loop-stretch-preserved : goal.loop-stretch-preserved
loop-stretch-preserved g c =
    let so_far = c.loop-stretch.invariant in
    let more = by-stretch c.args.scheduler c.args.net.now c.args.generator.now c.loop-stretch.generator c.give_stretch.new.generator c.loop-stretch.stretch _ _ _ _ _ _ _ _
    so_far.goes_on so_far.generator c.give_stretch.ensures.watched c.give_stretch.ensures.generator c.leave_all.ensures in
    record { goes_on = more.0; generator = more.1 }
