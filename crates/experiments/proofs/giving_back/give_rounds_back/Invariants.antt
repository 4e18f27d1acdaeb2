use Rattle.std.proofs.Common.{◌≤◌, ◌-◌}
use Rattle.judge.specs.configuration.ConfigurationView.{world_of}
use Rattle.schedules.specs.Taking.{IsUnderWay}
use Rattle.experiments.specs.GivenBack.{rounds_back}
use Rattle.experiments.proofs.giving_back.give_rounds_back.Given as goal

-- the rounds but those that are left were taken
abbrev pub invariant-loop-i : goal.invariant-loop-i
invariant-loop-i g l = record {
  taken : IsUnderWay g.S.EventSink.takes l.fn.sink (rounds_back l.fn.net l.fn.lending.more (world_of l.fn.lending.configuration) l.fn.lending.left l.count)
      (rounds_back l.fn.net l.lending.more (world_of l.lending.configuration) l.lending.left (l.count - l.i)) l.sink;
  failures : g.S.EventSink.failures l.fn.sink ≤ g.S.EventSink.failures l.sink;
}
