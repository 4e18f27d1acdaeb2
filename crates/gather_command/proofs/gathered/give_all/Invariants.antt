use Rattle.std.proofs.Common.{◌≤◌, take}
use Rattle.gather_command.proofs.gathered.give_all.Given as goal

-- the events in front were taken
abbrev pub invariant-loop-event : goal.invariant-loop-event
invariant-loop-event g l = record {
  taken : g.K.EventSink.takes l.fn.sink (take l.event-index l.events) l.sink;
  failures : g.K.EventSink.failures l.fn.sink ≤ g.K.EventSink.failures l.sink;
}
