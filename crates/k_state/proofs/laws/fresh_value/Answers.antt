use Rattle.std.proofs.Common.{add-one}
use Rattle.k_state.proofs.Steps.{below-step, fresh-front, front-step}
use Rattle.k_state.proofs.Histories.{fresh-history, until-first}
use Rattle.k_state.proofs.laws.fresh_value.Goals as goal

pub returns-clause-below : goal.returns-clause-below
returns-clause-below c = λ q n old new s r. below-step q s r

pub returns-clause-front : goal.returns-clause-front
returns-clause-front c = fresh-front

pub returns-clause-front_stays_or_turns_good : goal.returns-clause-front_stays_or_turns_good
returns-clause-front_stays_or_turns_good c = λ q a n old new s h. front-step q a s h

pub returns-clause-some_value : goal.returns-clause-some_value
returns-clause-some_value c = λ q n ring moves steps start short many. fresh-history q n ring moves start (λ k l. rw add-one at (steps k l)) short many

pub returns-clause-first_move : goal.returns-clause-first_move
returns-clause-first_move c = until-first
