use Rattle.lock_desk.proofs.Ranges.{fits-asked, fits-left, fits-loan}
use Rattle.lock_desk.proofs.laws.ranges_are_kept.Goals as goal

pub returns-clause-asks : goal.returns-clause-asks
returns-clause-asks c = fits-asked

pub returns-clause-leaves : goal.returns-clause-leaves
returns-clause-leaves c = fits-left

pub returns-clause-writes : goal.returns-clause-writes
returns-clause-writes c = fits-loan
