use Rattle.std.proofs.Common.{◌<◌, ◌≡◌, length, arith}
use Rattle.std.proofs.lemmas.Grind.{common_steps}
use Rattle.run_picture.specs.Curves.{count_in, step_in}
use Rattle.run_picture.proofs.Curves.{curve_done}
use Rattle.run_picture.proofs.Over.{over_next_of}
use Rattle.run_picture.proofs.layout.curves.steps_of.Goals as goal

pub loop-place-preserved : goal.loop-place-preserved
loop-place-preserved c =
    let within : c.loop-place.place < length c.args.columns.now = grind (arith, common_steps) in
    over_next_of (step_in c.args.page c.args.node.0) (count_in c.args.curve) c.args.columns.now c.loop-place.place _ c.count.result _ _ _ within c.count.ensures c.loop-place.invariant
    c.in_ok-push_step.ensures

pub returns : goal.returns
returns c =
    let all : length c.args.columns.now ≡ c.loop-place.place = grind (arith, common_steps) in
    curve_done c.args.page c.args.node.0 (count_in c.args.curve) c.args.columns.now c.loop-place.place _ _ all (grind (arith, common_steps)) c.loop-place.invariant
