use Rattle.schedules.specs.Slow.{slow_link, slow_node}
use Rattle.experiments.specs.declared.measured_run.Scheduler.TheVariants.{Random, Rounds, SlowLink, SlowNode}
use Rattle.experiments.proofs.Stretches.{by-scheduler, by-slow_round}
use Rattle.experiments.proofs.measured_run.give_stretch.Goals as goal

pub returns-in-Rounds-clause-watched : goal.returns-in-Rounds-clause-watched
returns-in-Rounds-clause-watched g c =
    by-scheduler c.args.scheduler Rounds c.args.net.now c.args.before c.args.generator.now _ _ _ _ c.in-Rounds.is
    c.give_one_round.ensures

pub returns-in-Random-clause-watched : goal.returns-in-Random-clause-watched
returns-in-Random-clause-watched g c =
    by-scheduler c.args.scheduler Random c.args.net.now c.args.before c.args.generator.now _ _ _ _ c.in-Random.is
    c.give_steps.ensures.watched

pub returns-in-SlowLink-clause-watched : goal.returns-in-SlowLink-clause-watched
returns-in-SlowLink-clause-watched g c =
    let net = c.args.net.now in
    let share = c.in-SlowLink.share in
    by-scheduler c.args.scheduler (SlowLink share) net c.args.before c.args.generator.now _ _ _ _ c.in-SlowLink.is
    (by-slow_round _ (slow_link net c.args.generator.now) net share c.args.before _ _ _ _ c.slow_link-slow.ensures
    c.give_one_slow_round.ensures)

pub returns-in-SlowNode-clause-watched : goal.returns-in-SlowNode-clause-watched
returns-in-SlowNode-clause-watched g c =
    let net = c.args.net.now in
    let share = c.in-SlowNode.share in
    by-scheduler c.args.scheduler (SlowNode share) net c.args.before c.args.generator.now _ _ _ _ c.in-SlowNode.is
    (by-slow_round _ (slow_node net c.args.generator.now) net share c.args.before _ _ _ _ c.slow_node-slow.ensures
    c.give_one_slow_round-in-SlowNode.ensures)
