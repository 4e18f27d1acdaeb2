use Rattle.std.proofs.Common.{◌≡◌}
use Rattle.experiments.specs.Scheduled.{plain_steps}
use Rattle.experiments.specs.Watched.{GoesOn}
use Rattle.experiments.proofs.measured_run.give_steps.Given as goal

-- the steps so far have been watched
abbrev pub invariant-loop-step : goal.invariant-loop-step
invariant-loop-step g l = record {
  watched : GoesOn l.fn.watch.judge l.fn.watch.last (plain_steps l.net l.step l.fn.generator).0 l.watch.judge l.watch.last;
  generator : l.generator ≡ (plain_steps l.net l.step l.fn.generator).1;
}
