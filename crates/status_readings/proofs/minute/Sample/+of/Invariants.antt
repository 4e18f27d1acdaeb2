use Rattle.std.proofs.Common.{length}
use Rattle.status_readings.proofs.minute.Sample.+of.Given as goal

abbrev pub decreases-of : goal.decreases-of
decreases-of l = length l.loans.now
