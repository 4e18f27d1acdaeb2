use Rattle.std.proofs.Common.{◌≤◌, ◌-◌}
use Rattle.schedules.specs.Rounds.{exchanges}
use Rattle.schedules.specs.Taking.{IsUnderWay}
use Rattle.schedules.proofs.Others.{takes_others}
use Rattle.schedules.proofs.slow.give_other_exchanges.Given as goal

-- the exchanges but those that are left were taken
abbrev pub invariant-loop-i : goal.invariant-loop-i
invariant-loop-i g l = record {
  taken : IsUnderWay (takes_others g.S.EventSink.takes l.slow) l.fn.sink (exchanges l.from l.to l.count) (exchanges l.from l.to (l.count - l.i)) l.sink;
  failures : g.S.EventSink.failures l.fn.sink ≤ g.S.EventSink.failures l.sink;
}
