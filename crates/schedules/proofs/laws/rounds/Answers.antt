use Rattle.schedules.proofs.Rounds.{idle-sweep, round-sweeps, rounds-sweep}
use Rattle.schedules.proofs.laws.rounds.Goals as goal

pub returns-clause-sweep : goal.returns-clause-sweep
returns-clause-sweep c = round-sweeps c.below.ensures

pub returns-clause-sweeps : goal.returns-clause-sweeps
returns-clause-sweeps c = rounds-sweep c.below.ensures

pub returns-clause-idle : goal.returns-clause-idle
returns-clause-idle c = idle-sweep c.below.ensures
