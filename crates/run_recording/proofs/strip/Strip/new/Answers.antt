use Rattle.std.proofs.Common.{[], refl, rules, arith}
use Rattle.std.proofs.lemmas.Grind.{common_steps}
use Rattle.run_recording.specs.Strips.AreShown.{None}
use Rattle.run_recording.proofs.strip.Strip.new.Goals as goal

pub invariant_of-result : goal.invariant_of-result
invariant_of-result g c =
    let none = c.in_ok-with_capacity.ensures.items in (
      c.requires,
      grind (arith, common_steps),
      search (rules, arith),
      search (rules, arith),
      search (rules, arith),
      (([], (rw none None, refl)), omega arith, omega arith),
    )

pub returns-clause-shows : goal.returns-clause-shows
returns-clause-shows g c = (rw c.in_ok-with_capacity.ensures.items None, refl)
