use Rattle.node_state_file.proofs.Spelled.{is_spelled, spelled_again}
use Rattle.node_state_file.proofs.laws.what_is_read_is_spelled.Goals as goal

pub returns-clause-spelled : goal.returns-clause-spelled
returns-clause-spelled c = is_spelled

pub returns-clause-again : goal.returns-clause-again
returns-clause-again c = spelled_again
