use Rattle.std.proofs.Common.{add-one}
use Rattle.k_state.proofs.Runs.{becomes-run}
use Rattle.k_state.proofs.Histories.{good-history}
use Rattle.k_state.proofs.laws.turns_good.Goals as goal

pub returns-clause-turns_good : goal.returns-clause-turns_good
returns-clause-turns_good c = λ q n ring moves steps start short many. good-history q n ring moves start (λ k l. rw add-one at (steps k l)) short many

pub returns-clause-run_turns_good : goal.returns-clause-run_turns_good
returns-clause-run_turns_good c = λ q n old new r i short many. becomes-run q r i short many
