use Rattle.std.proofs.Common.{◌≡◌, ◌++◌, map, take}
use Rattle.configuration.specs.node_core.View.{state_of}
use Rattle.flight_records.specs.declared.entry.StatePart.TheVariants.{Waits}
use Rattle.record_gathering.specs.declared.facts.Fact.TheVariants.{State}
use Rattle.record_gathering.proofs.facts.add_queue.Given as goal

abbrev pub invariant-loop-ticket : goal.invariant-loop-ticket
invariant-loop-ticket g l =
    l.facts.items ≡ l.fn.facts.items ++ map (λ t. State l.id (Waits t)) (take l.ticket-index (state_of l.node).desk.waiting)
