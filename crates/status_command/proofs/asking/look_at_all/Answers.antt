use Rattle.std.proofs.Common.{◌∙◌, ◌<◌, length, arith}
use Rattle.status_command.proofs.Lists.{same-nodes}
use Rattle.status_command.proofs.asking.look_at_all.Goals as goal

pub returns-in_err-waits : goal.returns-in_err-waits
returns-in_err-waits g c =
    let within : c.loop-place.place < length c.loop-place.all = omega arith in
    same-nodes c.loop-place.all c.loop-place.place c.index-all-place.result c.look_at.new.asked within c.look_at.ensures
    ∙ c.loop-place.invariant

pub loop-place-preserved : goal.loop-place-preserved
loop-place-preserved g c =
    let within : c.loop-place.place < length c.loop-place.all = omega arith in
    same-nodes c.loop-place.all c.loop-place.place c.index-all-place.result c.look_at.new.asked within c.look_at.ensures
    ∙ c.loop-place.invariant
