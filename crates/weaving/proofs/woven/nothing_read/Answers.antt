use Rattle.weaving.proofs.Unread.{noughts}
use Rattle.weaving.proofs.woven.nothing_read.Goals as goal

pub returns-clause-zero : goal.returns-clause-zero
returns-clause-zero c = noughts 64
