use Rattle.std.proofs.Common.{[], refl, rules, arith}
use Rattle.std.proofs.lemmas.Grind.{common_steps}
use Rattle.run_recording.specs.Laned.AreEnds.{Left}
use Rattle.run_recording.proofs.lanes.Lanes.new.Goals as goal

pub invariant_of-result : goal.invariant_of-result
invariant_of-result g c = (
  c.requires,
  grind (arith, common_steps),
  search (rules, arith),
  grind (arith, common_steps),
  omega arith,
  grind (arith, common_steps),
  omega arith,
)

pub returns-clause-ends : goal.returns-clause-ends
returns-clause-ends g c = rw c.in_ok-with_capacity.ensures.items (Left [] refl (omega arith))
