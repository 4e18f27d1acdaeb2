use Rattle.configuration.specs.ConfigurationView.{world_of}
use Rattle.record_gathering.proofs.FactsJoin.{links-more}
use Rattle.record_gathering.proofs.facts.add_links.Goals as goal

pub loop-to-preserved : goal.loop-to-preserved
loop-to-preserved g c =
    links-more (world_of c.args.world.now) c.args.from c.loop-to.to c.args.facts.now.items c.loop-to.facts.items c.add_link.new.facts.items
    c.loop-to.invariant c.in_ok-add_link.ensures
