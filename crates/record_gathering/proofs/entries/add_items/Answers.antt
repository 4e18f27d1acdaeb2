use Rattle.std.proofs.Common.{arith}
use Rattle.configuration.specs.ConfigurationView.{world_of}
use Rattle.record_gathering.proofs.FactsJoin.{items-put}
use Rattle.record_gathering.proofs.entries.add_items.Goals as goal

pub loop-index-preserved : goal.loop-index-preserved
loop-index-preserved g c =
    items-put (world_of c.args.world.now) c.args.from c.args.to c.args.events.now.items c.loop-index.events.items c.add.new.events.items
    c.loop-index.index c.item-item.result (omega (arith, c.loop-index-test.true, c.under_way-index-end.ensures.items))
    c.item-item.ensures c.loop-index.invariant c.in_ok-add.ensures
