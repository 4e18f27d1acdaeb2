use Rattle.std.proofs.Common.{◌≡◌, ◌≤◌, drop}
use Rattle.run_model.specs.Run.{run}
use Rattle.judge.specs.configuration.ConfigurationView.{world_of}
use Rattle.schedules.specs.Taking.{IsUnderWay}
use Rattle.experiments.proofs.plan.give_harms.Given as goal

-- the harms but those that are left have happened, and were taken
abbrev pub invariant-loop-harm : goal.invariant-loop-harm
invariant-loop-harm g l = record {
  happen : run (world_of l.fn.configuration) l.harms ≡ run (world_of l.configuration) (drop l.harm-index l.harms);
  taken : IsUnderWay g.S.EventSink.takes l.fn.sink l.harms (drop l.harm-index l.harms) l.sink;
  failures : g.S.EventSink.failures l.fn.sink ≤ g.S.EventSink.failures l.sink;
}
