use Rattle.std.proofs.Common.{◌≤◌, ◌+◌, drop}
use Rattle.std.specs.List.{flat_map}
use Rattle.schedules.specs.Rounds.{exchanges}
use Rattle.schedules.specs.Taking.{IsUnderWay}
use Rattle.schedules.proofs.Others.{takes_others}
use Rattle.schedules.proofs.slow.give_others_from.Given as goal

-- the exchanges with the neighbours but those that are left were taken
abbrev pub invariant-loop-to : goal.invariant-loop-to
invariant-loop-to g l = record {
  taken : IsUnderWay (takes_others g.S.EventSink.takes l.slow) l.fn.sink (flat_map (λ v. exchanges l.from v (l.fn.net.capacity + 1)) l.neighbours)
      (flat_map (λ v. exchanges l.from v (l.fn.net.capacity + 1)) (drop l.to-index l.neighbours)) l.sink;
  failures : g.S.EventSink.failures l.fn.sink ≤ g.S.EventSink.failures l.sink;
}
