use Rattle.std.proofs.Common.{◌≡◌, ◌++◌, map, take}
use Rattle.configuration.specs.run_model.declared.event.Event.TheVariants.{Leave}
use Rattle.record_gathering.proofs.entries.add_leaves.Given as goal

abbrev pub invariant-loop-ticket : goal.invariant-loop-ticket
invariant-loop-ticket g l = l.events.items ≡ l.fn.events.items ++ map (Leave l.node) (take l.ticket-index l.tickets)
