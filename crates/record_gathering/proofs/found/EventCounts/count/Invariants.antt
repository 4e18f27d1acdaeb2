use Rattle.std.proofs.Common.{◌≡◌, take}
use Rattle.record_gathering.specs.Counts.{with_events}
use Rattle.record_gathering.proofs.found.EventCounts.count.Given as goal

abbrev pub invariant-loop-event : goal.invariant-loop-event
invariant-loop-event l = l.self ≡ with_events l.fn.self (take l.event-index l.events)
