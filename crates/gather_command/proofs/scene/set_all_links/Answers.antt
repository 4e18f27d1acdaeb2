use Rattle.std.proofs.Common.{refl}
use Rattle.record_gathering.specs.configuration.ConfigurationView.{world_of}
use Rattle.record_gathering.specs.Facts.{links_below}
use Rattle.gather_command.proofs.Scenes.{none-set, next-set}
use Rattle.gather_command.proofs.scene.set_all_links.Goals as goal

pub loop-from-init : goal.loop-from-init
loop-from-init g c = none-set g.K.EventSink.takes g.K.EventSink.failures g.met.K.EventSink.takes_none g.met.K.EventSink.takes_both _ _

pub loop-from-preserved : goal.loop-from-preserved
loop-from-preserved g c =
    let laws = g.met.K.EventSink in
    next-set g.K.EventSink.takes g.K.EventSink.failures laws.takes_none laws.takes_both c.facts_join.ensures c.runs.ensures.join (links_below (world_of c.args.world.now)) c.loop-from.from _ refl
    _ _ _ _ _ _ c.loop-from.invariant c.in_ok-set_links.ensures.set
