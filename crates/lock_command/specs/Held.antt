-- The exit status of `lock`.
use Rattle.std.specs.Prelude.{ℕ, Result, Ok, Err}
use Rattle.lock_client.specs.Outcome.{chosen_status}
use Rattle.lock_command.specs.declared.driver.Driven.{Driven}
use Rattle.lock_command.specs.declared.notice.Notice.{Notice}

-- the status of the outcome, with the user's own for a lost lock; 125 if the lock could not be
-- asked for
abbrev pub held_status : Result Driven Notice → ℕ → ℕ
held_status (Ok driven) lost = chosen_status lost driven.outcome
held_status (Err notice) lost = 125
