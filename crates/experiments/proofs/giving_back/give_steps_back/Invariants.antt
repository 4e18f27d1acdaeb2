use Rattle.std.proofs.Common.{◌≤◌, ◌-◌}
use Rattle.judge.specs.configuration.ConfigurationView.{world_of}
use Rattle.schedules.specs.Taking.{IsUnderWay}
use Rattle.experiments.specs.GivenBack.{random_back}
use Rattle.experiments.proofs.giving_back.give_steps_back.Given as goal

-- the steps but those that are left were taken
abbrev pub invariant-loop-i : goal.invariant-loop-i
invariant-loop-i g l = record {
  taken : IsUnderWay g.S.EventSink.takes l.fn.sink
      (random_back l.fn.lending.more (world_of l.fn.lending.configuration) l.fn.lending.left l.chances l.steps l.fn.generator)
      (random_back l.lending.more (world_of l.lending.configuration) l.lending.left l.chances (l.steps - l.i) l.generator) l.sink;
  failures : g.S.EventSink.failures l.fn.sink ≤ g.S.EventSink.failures l.sink;
}
