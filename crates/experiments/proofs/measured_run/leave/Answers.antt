use Rattle.std.proofs.Common.{◌∙◌, ap, Some}
use Rattle.judge.specs.configuration.ConfigurationView.{world_of}
use Rattle.experiments.specs.Scheduled.{lent_at}
use Rattle.experiments.proofs.Stretches.{by-leave}
use Rattle.experiments.proofs.measured_run.leave.Goals as goal

pub returns-in-Some : goal.returns-in-Some
returns-in-Some g c =
    by-leave c.args.node (Some c.in-Some.ticket) _ _ _ _ (c.in-Some.ensures ∙ ap (λ k. lent_at (world_of k) c.args.node) c.configuration.ensures) c.take-taken.ensures.taken
