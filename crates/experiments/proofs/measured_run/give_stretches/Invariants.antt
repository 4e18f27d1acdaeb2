use Rattle.std.proofs.Common.{◌≡◌}
use Rattle.run_model.specs.World.{World}
use Rattle.experiments.specs.Scheduled.{stretches}
use Rattle.experiments.specs.Watched.{GoesOnBy}
use Rattle.experiments.proofs.measured_run.give_stretches.Given as goal

-- the stretches so far have been watched
abbrev pub invariant-loop-stretch : goal.invariant-loop-stretch
invariant-loop-stretch g l = record {
  goes_on : GoesOnBy (λ w. (stretches l.scheduler l.net w l.fn.generator l.stretch).0) l.fn.watch.judge l.fn.watch.last l.watch.judge l.watch.last;
  generator : (w : World) → l.generator ≡ (stretches l.scheduler l.net w l.fn.generator l.stretch).1;
}
