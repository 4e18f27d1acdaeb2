use Rattle.turn_watch.proofs.Gaps.{longest, lately}
use Rattle.turn_watch.proofs.laws.no_gap_is_missed.Goals as goal

pub returns-clause-longest : goal.returns-clause-longest
returns-clause-longest c = longest

pub returns-clause-lately : goal.returns-clause-lately
returns-clause-lately c = lately
