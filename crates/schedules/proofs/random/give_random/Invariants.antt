use Rattle.std.proofs.Common.{◌≤◌, ◌-◌}
use Rattle.configuration.specs.ConfigurationView.{world_of}
use Rattle.schedules.specs.Random.{random_steps}
use Rattle.schedules.specs.Taking.{IsUnderWay}
use Rattle.schedules.proofs.random.give_random.Given as goal

-- the steps but those that are left were taken
abbrev pub invariant-loop-i : goal.invariant-loop-i
invariant-loop-i g l = record {
  taken : IsUnderWay g.S.EventSink.takes l.fn.sink (random_steps (world_of l.fn.configuration) l.chances l.count l.fn.generator)
      (random_steps (world_of l.configuration) l.chances (l.count - l.i) l.generator) l.sink;
  failures : g.S.EventSink.failures l.fn.sink ≤ g.S.EventSink.failures l.sink;
}
