use Rattle.std.proofs.Common.{◌≡◌, drop}
use Rattle.run_model.specs.Run.{run}
use Rattle.judge.specs.configuration.ConfigurationView.{world_of}
use Rattle.experiments.proofs.measured_run.happen.Given as goal

-- the harms but those that are left have happened
abbrev pub invariant-loop-harm : goal.invariant-loop-harm
invariant-loop-harm g l = run (world_of l.fn.world) l.harms ≡ run (world_of l.world) (drop l.harm-index l.harms)
