use Rattle.std.proofs.Common.{ℕ}
use Rattle.flight_records.specs.declared.entry.StatePart.TheVariants.{Waits}
use Rattle.record_gathering.specs.declared.facts.Fact.{Fact}
use Rattle.record_gathering.specs.declared.facts.Fact.TheVariants.{State}
use Rattle.record_gathering.proofs.FactsJoin.{map-more}
use Rattle.record_gathering.proofs.facts.add_queue.Goals as goal

pub loop-ticket-preserved : goal.loop-ticket-preserved
loop-ticket-preserved g c =
    let waits : ℕ → Fact = λ t. State c.args.id (Waits t) in
    map-more waits _ _ _ _ _ c.tickets-ticket-items.ensures c.loop-ticket.ticket-index _ c.loop-ticket-test.true
    c.loop-ticket.invariant c.in_ok-add.ensures
