use Rattle.std.proofs.Common.{◌≡◌, ◌<◌, length, arith}
use Rattle.std.proofs.lemmas.Grind.{common_steps}
use Rattle.run_picture.specs.Tree.{node_shown}
use Rattle.run_picture.proofs.Over.{over_next_on, over_all_on}
use Rattle.run_picture.proofs.layout.tree.draw_nodes.Goals as goal

pub loop-lane-preserved : goal.loop-lane-preserved
loop-lane-preserved c =
    let within : c.loop-lane.lane < length c.args.order.now = grind (arith, common_steps) in
    over_next_on (node_shown c.args.page c.args.net.now) c.args.order.now c.loop-lane.lane _ _ _ _ within c.loop-lane.invariant c.in_ok-draw_node.ensures

pub returns : goal.returns
returns c =
    let all : length c.args.order.now ≡ c.loop-lane.lane = grind (arith, common_steps) in
    over_all_on (node_shown c.args.page c.args.net.now) c.args.order.now c.loop-lane.lane _ _ all c.loop-lane.invariant
