use Rattle.std.proofs.Common.{◌≡◌, ◌+◌, ◌*◌, length, subst, rules}
use Rattle.experiments.specs.Scheduled.{plain_steps}
use Rattle.experiments.specs.Watched.{GoesOn}
use Rattle.experiments.proofs.Stretches.{steps-more}
use Rattle.experiments.proofs.measured_run.give_steps.Goals as goal

pub loop-step-preserved : goal.loop-step-preserved
loop-step-preserved g c =
    let so_far = c.loop-step.invariant in
    let more = steps-more c.args.net.now c.loop-step.step c.args.generator.now c.loop-step.generator (c.draw_step-event.result, c.draw_step-event.new.generator) _ _ _ _ _ _
    so_far.watched so_far.generator c.draw_step-event.ensures c.take-taken.ensures.taken in
    record { watched = more.0; generator = more.1 }

pub returns-clause-watched : goal.returns-clause-watched
returns-clause-watched g c =
    let all : c.loop-step.step ≡ c.args.net.now.nodes + 4 * length c.args.net.now.edges = search rules in
    subst (λ n. GoesOn c.args.watch.now.judge c.args.watch.now.last (plain_steps c.args.net.now n c.args.generator.now).0 c.loop-step.watch.judge c.loop-step.watch.last) all
    c.loop-step.invariant.watched
