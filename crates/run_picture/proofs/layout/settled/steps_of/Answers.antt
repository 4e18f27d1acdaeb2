use Rattle.std.proofs.Common.{◌<◌, ◌≡◌, length, arith}
use Rattle.std.proofs.lemmas.Grind.{common_steps}
use Rattle.run_picture.specs.Settled.{base_of, level_in, settled_step}
use Rattle.run_picture.proofs.Over.{over_next_of}
use Rattle.run_picture.proofs.Settled.{outline_closed}
use Rattle.run_picture.proofs.layout.settled.steps_of.Goals as goal

pub loop-place-preserved : goal.loop-place-preserved
loop-place-preserved c =
    let within : c.loop-place.place < length c.args.states.now = grind (arith, common_steps) in
    let added = rw c.base_of-base.ensures at c.in_ok-push_step.ensures in
    over_next_of (settled_step c.args.page (base_of c.args.page c.args.layer)) (level_in c.args.layer) c.args.states.now c.loop-place.place _ c.level.result _ _ _
    within c.level.ensures c.loop-place.invariant added

pub returns : goal.returns
returns c =
    let all : length c.args.states.now ≡ c.loop-place.place = grind (arith, common_steps) in
    outline_closed c.args.page (base_of c.args.page c.args.layer) (level_in c.args.layer) c.args.states.now c.loop-place.place _ _ _ all
    (grind (arith, common_steps)) c.loop-place.invariant (grind (arith, common_steps))
