use Rattle.std.proofs.Common.{◌≤◌, ◌-◌}
use Rattle.schedules.specs.Rounds.{exchanges}
use Rattle.schedules.specs.Taking.{IsUnderWay}
use Rattle.schedules.proofs.by_rounds.give_exchanges.Given as goal

-- the exchanges but those that are left were taken
abbrev pub invariant-loop-i : goal.invariant-loop-i
invariant-loop-i g l = record {
  taken : IsUnderWay g.S.EventSink.takes l.fn.sink (exchanges l.from l.to l.count) (exchanges l.from l.to (l.count - l.i)) l.sink;
  failures : g.S.EventSink.failures l.fn.sink ≤ g.S.EventSink.failures l.sink;
}
