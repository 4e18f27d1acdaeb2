use Rattle.node_state_file.proofs.Accepted.{accepted}
use Rattle.node_state_file.proofs.laws.spellings_are_read.Goals as goal

pub returns : goal.returns
returns c = λ net id l ids s. accepted c.limits.ensures net id l ids s
