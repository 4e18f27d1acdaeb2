use Rattle.status_readings.proofs.Verdicts.{one-loan}
use Rattle.status_readings.proofs.laws.one_loan_is_not_critical.Goals as goal

pub returns : goal.returns
returns c = one-loan
