use Rattle.std.proofs.Common.{length}
use Rattle.status_readings.proofs.minute.+longest_present.Given as goal

abbrev pub decreases-longest_present : goal.decreases-longest_present
decreases-longest_present l = length l.samples.now
