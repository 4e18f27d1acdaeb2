use Rattle.std.proofs.Common.{◌≡◌, fold, take}
use Rattle.gather_command.specs.Delays.{delays_after_event}
use Rattle.gather_command.proofs.delays.Delays.sees_all.Given as goal

abbrev pub invariant-loop-event : goal.invariant-loop-event
invariant-loop-event l = l.self ≡ fold (delays_after_event l.instant) l.fn.self (take l.event-index l.events)
