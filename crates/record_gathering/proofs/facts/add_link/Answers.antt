use Rattle.std.proofs.Common.{arith}
use Rattle.configuration.specs.ConfigurationView.{world_of}
use Rattle.record_gathering.proofs.FactsJoin.{items-more}
use Rattle.record_gathering.proofs.facts.add_link.Goals as goal

pub loop-index-preserved : goal.loop-index-preserved
loop-index-preserved g c =
    items-more (world_of c.args.world.now) c.args.from c.args.to c.args.facts.now.items c.loop-index.facts.items c.add.new.facts.items
    c.loop-index.index c.item-item.result (omega (arith, c.loop-index-test.true, c.under_way-index-end.ensures.items))
    c.item-item.ensures c.loop-index.invariant c.in_ok-add.ensures
