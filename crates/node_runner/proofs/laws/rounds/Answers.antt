use Rattle.node_runner.proofs.AccountEvents.{rounds-ticks}
use Rattle.node_runner.proofs.laws.rounds.Goals as goal

pub returns : goal.returns
returns c = rounds-ticks
