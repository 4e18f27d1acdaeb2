use Rattle.schedules.specs.Slow.{slow_round}
use Rattle.schedules.proofs.Plain.{plain-undamaged}
use Rattle.schedules.proofs.SlowSweeps.{plain-slow, slow-sweeps}
use Rattle.schedules.proofs.laws.slow_rounds.Goals as goal

pub returns-clause-undamaged : goal.returns-clause-undamaged
returns-clause-undamaged c net slow share i w = plain-undamaged net w (slow_round net slow share i) (plain-slow net slow share i)

pub returns-clause-sweeps : goal.returns-clause-sweeps
returns-clause-sweeps c = slow-sweeps c.below.ensures
