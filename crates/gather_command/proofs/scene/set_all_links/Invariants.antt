use Rattle.record_gathering.specs.configuration.ConfigurationView.{world_of}
use Rattle.record_gathering.specs.Facts.{links_below}
use Rattle.gather_command.specs.Scene.{HasSet}
use Rattle.gather_command.proofs.scene.set_all_links.Given as goal

-- the items under way from the nodes in front were set
abbrev pub invariant-loop-from : goal.invariant-loop-from
invariant-loop-from g l =
    HasSet g.K.EventSink.takes g.K.EventSink.failures l.fn.scene l.fn.sink (links_below (world_of l.world) l.from)
    l.scene l.sink
