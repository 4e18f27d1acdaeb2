use Rattle.std.proofs.Common.{arith, refl}
use Rattle.std.proofs.lemmas.Grind.{common_steps}
use Rattle.world.proofs.Writing.{takes_nothing}
use Rattle.world.proofs.simulation.under_way.Simulation.new.Goals as goal

pub returns-clause-under_way : goal.returns-clause-under_way
returns-clause-under_way g c =
    λ before. record {
      stands = c.new-2.ensures;
      has_run = record { seen = c.new.ensures.judging; lines_are = refl; refused_are = grind (arith, common_steps); written = takes_nothing before };
    }
