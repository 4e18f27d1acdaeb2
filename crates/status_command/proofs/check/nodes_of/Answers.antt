use Rattle.std.proofs.Common.{arith, refl}
use Rattle.status_command.proofs.Lists.{counted-on}
use Rattle.status_command.proofs.check.nodes_of.Goals as goal

pub loop-node-preserved : goal.loop-node-preserved
loop-node-preserved c =
    rw (c.in_ok-push.ensures.items, c.loop-node.invariant, counted-on 0 c.loop-node.node c.loop-node.node (omega arith)) refl
