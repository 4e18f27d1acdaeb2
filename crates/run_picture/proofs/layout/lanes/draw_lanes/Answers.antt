use Rattle.std.proofs.Common.{◌≡◌, ◌<◌, length, arith}
use Rattle.std.proofs.lemmas.Grind.{common_steps}
use Rattle.run_picture.proofs.Lanes.{no_lanes, lanes_next, lanes_all}
use Rattle.run_picture.proofs.layout.lanes.draw_lanes.Goals as goal

pub loop-lane-init : goal.loop-lane-init
loop-lane-init c = no_lanes c.args.page c.args.columns.now _

pub loop-lane-preserved : goal.loop-lane-preserved
loop-lane-preserved c =
    let within : c.loop-lane.lane < length c.args.order.now = grind (arith, common_steps) in
    let drawn_is = rw c.as_slice.ensures.value at c.in_ok-draw_lane.ensures in
    lanes_next c.args.page c.args.columns.now c.args.order.now c.loop-lane.lane _ _ _ _ _ within c.loop-lane.invariant
    c.in_ok-runs.ensures drawn_is

pub returns : goal.returns
returns c =
    let all : length c.args.order.now ≡ c.loop-lane.lane = grind (arith, common_steps) in
    lanes_all c.args.page c.args.columns.now c.args.order.now c.loop-lane.lane _ _ all c.loop-lane.invariant
