use Rattle.std.proofs.Common.{◌≤◌, drop}
use Rattle.schedules.specs.Taking.{IsUnderWay}
use Rattle.command_parts.proofs.giving.give_events.Given as goal

-- the sink has taken all events but those that are left
abbrev pub invariant-loop-event : goal.invariant-loop-event
invariant-loop-event g l = record {
  taken : IsUnderWay g.S.EventSink.takes l.fn.sink l.events (drop l.event-index l.events) l.sink;
  failures : g.S.EventSink.failures l.fn.sink ≤ g.S.EventSink.failures l.sink;
}
