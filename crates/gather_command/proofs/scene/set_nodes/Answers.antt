use Rattle.std.proofs.Common.{refl}
use Rattle.record_gathering.specs.configuration.ConfigurationView.{world_of}
use Rattle.record_gathering.specs.Facts.{states_below}
use Rattle.gather_command.proofs.Scenes.{none-set, next-set}
use Rattle.gather_command.proofs.scene.set_nodes.Goals as goal

pub loop-node-init : goal.loop-node-init
loop-node-init g c = none-set g.K.EventSink.takes g.K.EventSink.failures g.met.K.EventSink.takes_none g.met.K.EventSink.takes_both _ _

pub loop-node-preserved : goal.loop-node-preserved
loop-node-preserved g c =
    let laws = g.met.K.EventSink in
    next-set g.K.EventSink.takes g.K.EventSink.failures laws.takes_none laws.takes_both c.facts_join.ensures c.runs.ensures.join (states_below c.args.network (world_of c.args.world.now)) c.loop-node.node _ refl
    _ _ _ _ _ _ c.loop-node.invariant c.in_ok-set_node.ensures.set
