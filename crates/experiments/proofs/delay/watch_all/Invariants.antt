use Rattle.std.specs.Prelude.{take}
use Rattle.experiments.specs.Watched.{GoesOn}
use Rattle.experiments.proofs.delay.watch_all.Given as goal

-- the events so far have been watched
abbrev pub invariant-loop-event : goal.invariant-loop-event
invariant-loop-event g l = GoesOn l.fn.watch.judge l.fn.watch.last (take l.event-index l.events) l.watch.judge l.watch.last
