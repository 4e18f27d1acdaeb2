use Rattle.gather_command.proofs.Sights.{flaws-step}
use Rattle.gather_command.proofs.weaving.flaws_in.Goals as goal

pub loop-node-preserved : goal.loop-node-preserved
loop-node-preserved g c =
    flaws-step c.args.nodes.now c.loop-node.node-index c.node-item.result c.loop-node.flaws.items c.add_flaws.new.flaws.items
    c.node-item.is c.loop-node-test.true c.in_ok-add_flaws.ensures c.loop-node.invariant
