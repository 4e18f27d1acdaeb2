use Rattle.record_gathering.specs.configuration.ConfigurationView.{world_of}
use Rattle.record_gathering.specs.Facts.{states_below}
use Rattle.gather_command.specs.Scene.{HasSet}
use Rattle.gather_command.proofs.scene.set_nodes.Given as goal

-- the states of the nodes in front were set
abbrev pub invariant-loop-node : goal.invariant-loop-node
invariant-loop-node g l =
    HasSet g.K.EventSink.takes g.K.EventSink.failures l.fn.scene l.fn.sink (states_below l.network (world_of l.world) l.node)
    l.scene l.sink
