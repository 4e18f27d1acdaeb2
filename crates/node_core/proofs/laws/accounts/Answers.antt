use Rattle.node_core.proofs.Joined.{joins, one-end, frames-join}
use Rattle.node_core.proofs.laws.accounts.Goals as goal

pub returns-clause-join : goal.returns-clause-join
returns-clause-join c = joins

pub returns-clause-one_end : goal.returns-clause-one_end
returns-clause-one_end c = one-end

pub returns-clause-frames : goal.returns-clause-frames
returns-clause-frames c = frames-join
