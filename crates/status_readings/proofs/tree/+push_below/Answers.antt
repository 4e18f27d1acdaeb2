use Rattle.std.proofs.Common.{arith}
use Rattle.status_readings.proofs.Trees.{begun}
use Rattle.status_readings.proofs.tree.+push_below.Goals as goal

pub loop-child-init : goal.loop-child-init
loop-child-init t c = begun _ _ _ _ _ _ (omega (arith, c.if-left-eq0.false)) c.saturating_sub-depth.ensures c.in_ok-push.ensures.items
