use Rattle.std.proofs.Common.{◌≡◌, take}
use Rattle.record_gathering.specs.Counts.{any_written}
use Rattle.record_gathering.proofs.found.any_written.Given as goal

abbrev pub invariant-loop-event : goal.invariant-loop-event
invariant-loop-event l = l.found ≡ any_written (take l.event-index l.events)
