use Rattle.experiments.specs.Watched.{GoesOnBy}
use Rattle.experiments.proofs.Stretches.{leaves_below}
use Rattle.experiments.proofs.measured_run.leave_all.Given as goal

-- the nodes so far have given it back
abbrev pub invariant-loop-node : goal.invariant-loop-node
invariant-loop-node g l = GoesOnBy (leaves_below l.node) l.fn.watch.judge l.fn.watch.last l.watch.judge l.watch.last
