use Rattle.std.proofs.Common.{take}
use Rattle.judge.specs.configuration.ConfigurationView.{world_of}
use Rattle.judge.specs.JudgeView.{HasSeen}
use Rattle.world.proofs.report.judge.Given as goal

abbrev pub invariant-loop-event : goal.invariant-loop-event
invariant-loop-event g l = HasSeen l.judge (world_of l.fn.start) (take l.event-index l.events)
