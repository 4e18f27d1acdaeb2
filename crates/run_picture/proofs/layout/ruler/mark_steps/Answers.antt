use Rattle.std.proofs.Common.{◌≡◌, ◌<◌, length, arith}
use Rattle.std.proofs.lemmas.Grind.{common_steps}
use Rattle.run_picture.specs.Ruler.{mark_over}
use Rattle.run_picture.proofs.Over.{over_next, over_all}
use Rattle.run_picture.proofs.layout.ruler.mark_steps.Goals as goal

pub loop-place-preserved : goal.loop-place-preserved
loop-place-preserved c =
    let within : c.loop-place.place < length c.args.columns.now = grind (arith, common_steps) in
    over_next (mark_over c.args.mark c.args.page) c.args.columns.now c.loop-place.place _ _ _ within c.loop-place.invariant c.in_ok-push_mark.ensures

pub returns : goal.returns
returns c =
    let all : length c.args.columns.now ≡ c.loop-place.place = grind (arith, common_steps) in
    over_all (mark_over c.args.mark c.args.page) c.args.columns.now c.loop-place.place _ all c.loop-place.invariant
