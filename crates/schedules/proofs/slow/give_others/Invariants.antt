use Rattle.std.proofs.Common.{◌≤◌, ◌-◌, ◌++◌, map}
use Rattle.std.specs.List.{flat_map, range_with_len}
use Rattle.configuration.specs.run_model.declared.event.Event.TheVariants.{Tick}
use Rattle.schedules.specs.Rounds.{exchanges_from, round}
use Rattle.schedules.specs.Taking.{IsUnderWay}
use Rattle.schedules.proofs.Others.{takes_others}
use Rattle.schedules.proofs.slow.give_others.Given as goal

-- the ticks but those that are left were taken
abbrev pub invariant-loop-node : goal.invariant-loop-node
invariant-loop-node g l = record {
  taken : IsUnderWay (takes_others g.S.EventSink.takes l.slow) l.fn.sink (round l.fn.net)
      (map Tick (range_with_len l.node (l.fn.net.nodes - l.node)) ++ flat_map (exchanges_from l.fn.net) (range_with_len 0 l.fn.net.nodes)) l.sink;
  failures : g.S.EventSink.failures l.fn.sink ≤ g.S.EventSink.failures l.sink;
}

-- and the exchanges but those from the nodes that are left
abbrev pub invariant-loop-from : goal.invariant-loop-from
invariant-loop-from g l = record {
  taken : IsUnderWay (takes_others g.S.EventSink.takes l.slow) l.fn.sink (round l.fn.net)
      (flat_map (exchanges_from l.fn.net) (range_with_len l.from (l.fn.net.nodes - l.from))) l.sink;
  failures : g.S.EventSink.failures l.fn.sink ≤ g.S.EventSink.failures l.sink;
}
