use Rattle.std.proofs.Common.{take}
use Rattle.gather_command.specs.Scene.{HasSet}
use Rattle.gather_command.proofs.scene.set_all.Given as goal

-- the facts in front were set
abbrev pub invariant-loop-fact : goal.invariant-loop-fact
invariant-loop-fact g l =
    HasSet g.K.EventSink.takes g.K.EventSink.failures l.fn.scene l.fn.sink (take l.fact-index l.facts) l.scene l.sink
