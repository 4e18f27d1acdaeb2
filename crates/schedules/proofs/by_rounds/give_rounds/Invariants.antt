use Rattle.std.proofs.Common.{◌≤◌, ◌-◌}
use Rattle.schedules.specs.Rounds.{rounds}
use Rattle.schedules.specs.Taking.{IsUnderWay}
use Rattle.schedules.proofs.by_rounds.give_rounds.Given as goal

-- the rounds but those that are left were taken
abbrev pub invariant-loop-i : goal.invariant-loop-i
invariant-loop-i g l = record {
  taken : IsUnderWay g.S.EventSink.takes l.fn.sink (rounds l.fn.net l.count) (rounds l.fn.net (l.count - l.i)) l.sink;
  failures : g.S.EventSink.failures l.fn.sink ≤ g.S.EventSink.failures l.sink;
}
