use Rattle.k_state.proofs.Steps.{good-step, front-good}
use Rattle.k_state.proofs.Runs.{good-run}
use Rattle.k_state.proofs.laws.stays_good.Goals as goal

pub returns-clause-stays : goal.returns-clause-stays
returns-clause-stays c = λ q n old new s g. good-step q s g

pub returns-clause-stays_in_runs : goal.returns-clause-stays_in_runs
returns-clause-stays_in_runs c = λ q n old new r g. good-run q r g

pub returns-clause-front : goal.returns-clause-front
returns-clause-front c = front-good
