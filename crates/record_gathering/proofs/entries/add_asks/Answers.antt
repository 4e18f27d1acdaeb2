use Rattle.std.proofs.Common.{refl}
use Rattle.configuration.specs.run_model.declared.event.Event.TheVariants.{Ask}
use Rattle.record_gathering.proofs.FactsJoin.{map-more}
use Rattle.record_gathering.proofs.entries.add_asks.Goals as goal

pub loop-ticket-preserved : goal.loop-ticket-preserved
loop-ticket-preserved g c =
    map-more (Ask c.args.node) _ _ _ _ _ refl c.loop-ticket.ticket-index _ c.loop-ticket-test.true
    c.loop-ticket.invariant c.in_ok-add.ensures
