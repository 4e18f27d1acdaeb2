use Rattle.k_state.proofs.Parallel.{parallel-run, step-run, joined}
use Rattle.k_state.proofs.laws.parallel_copies.Goals as goal

pub returns-clause-is_run : goal.returns-clause-is_run
returns-clause-is_run c = parallel-run

pub returns-clause-step_is_run : goal.returns-clause-step_is_run
returns-clause-step_is_run c = λ q n old new s. step-run q s

pub returns-clause-join : goal.returns-clause-join
returns-clause-join c = λ q m n xs ys zs r s. joined q r s
