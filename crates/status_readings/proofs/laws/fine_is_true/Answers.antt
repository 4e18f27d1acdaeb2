use Rattle.status_readings.proofs.Verdicts.{fine}
use Rattle.status_readings.proofs.laws.fine_is_true.Goals as goal

pub returns : goal.returns
returns c = fine
