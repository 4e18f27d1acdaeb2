use Rattle.std.proofs.Common.{◌≡◌, ◌<◌, length, arith}
use Rattle.std.proofs.lemmas.Grind.{common_steps}
use Rattle.run_recording.proofs.Stills.{same_more, same_all}
use Rattle.run_recording.proofs.still.are_same.Goals as goal

pub loop-k-preserved : goal.loop-k-preserved
loop-k-preserved g c =
    let there : c.loop-k.k < length c.args.parts.now = grind (arith, common_steps) in
    let here : c.loop-k.k < length c.args.others.now = grind (arith, common_steps) in
    same_more c.args.parts.now c.args.others.now c.loop-k.k _ _ there here c.loop-k.invariant (c.is_same.ensures (grind (arith, common_steps)))

pub returns : goal.returns
returns g c =
    λ yes.
    let there : length c.args.parts.now ≡ c.loop-k.k = grind (arith, common_steps) in
    let here : length c.args.others.now ≡ c.loop-k.k = grind (arith, common_steps) in
    same_all c.args.parts.now c.args.others.now c.loop-k.k there here c.loop-k.invariant
