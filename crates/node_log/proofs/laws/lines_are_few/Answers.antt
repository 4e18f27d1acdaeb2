use Rattle.std.proofs.Common.{refl}
use Rattle.node_log.proofs.Few.{at_most_twenty}
use Rattle.node_log.proofs.laws.lines_are_few.Goals as goal

pub returns-clause-few : goal.returns-clause-few
returns-clause-few c = at_most_twenty

pub returns-clause-off : goal.returns-clause-off
returns-clause-off c = λ event now rate. refl
