use Rattle.std.proofs.Common.{◌≡◌, ◌<◌, length, arith}
use Rattle.std.proofs.lemmas.Grind.{common_steps}
use Rattle.run_picture.specs.Ruler.{guarantees_over}
use Rattle.run_picture.proofs.Over.{over_next_on, over_all_on}
use Rattle.run_picture.proofs.layout.ruler.draw_guarantees.Goals as goal

pub loop-place-preserved : goal.loop-place-preserved
loop-place-preserved c =
    let within : c.loop-place.place < length c.args.columns.now = grind (arith, common_steps) in
    over_next_on (guarantees_over c.args.page) c.args.columns.now c.loop-place.place _ _ _ _ within c.loop-place.invariant
    c.in_ok-draw_guarantees_over.ensures

pub returns : goal.returns
returns c =
    let all : length c.args.columns.now ≡ c.loop-place.place = grind (arith, common_steps) in
    over_all_on (guarantees_over c.args.page) c.args.columns.now c.loop-place.place _ _ all c.loop-place.invariant
