use Rattle.std.proofs.Common.{arith}
use Rattle.std.proofs.lemmas.Grind.{common_steps}
use Rattle.link_model.proofs.Turning.{kept, lost}
use Rattle.link_model.proofs.link.Link.lose.Goals.{in-Some+then-place-index, in-Some+else-place-index, in_default}
use Rattle.link_model.proofs.link.Link.lose.Goals as goal

pub loop-place-preserved : goal.loop-place-preserved
loop-place-preserved g c = elim c.match-pop_front.branch [
  | in-Some+then-place-index w ↦ grind (arith, common_steps, kept)
  | in-Some+else-place-index w ↦ grind (arith, common_steps, lost)
  | in_default w ↦ grind (arith, common_steps)
]
