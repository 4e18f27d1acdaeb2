-- The exit status of a program that ran a command under the lock.
use Rattle.std.specs.Prelude.{ℕ, ◌+◌, if◌then◌else◌, nat_lt}
use Rattle.lock_client.specs.declared.outcome.CommandEnd.{CommandEnd}
use Rattle.lock_client.specs.declared.outcome.CommandEnd.TheVariants.{Exited, Killed, CannotRun, NotThere, NotGuarded}
use Rattle.lock_client.specs.declared.outcome.Outcome.{Outcome}
use Rattle.lock_client.specs.declared.outcome.Outcome.TheVariants.{Done, Lost, NotInTime, NoService, Stopped}
use Rattle.held_signals.specs.Signals.{signal_number}

-- the command's own status; 128 plus the number of the signal that ended it, at most 255; 126 if
-- it cannot be run and 127 if there is none, as env has it; 125 if it had no guard
abbrev pub end_status : CommandEnd → ℕ
end_status (Exited status) = status
end_status (Killed signal) = if nat_lt signal 128 then 128 + signal else 255
end_status CannotRun = 126
end_status NotThere = 127
end_status NotGuarded = 125

-- the command's status; 122 for a lost lock; 124 if it was not granted in time, as timeout has it;
-- 125 if there is no service; 128 plus the number of a signal that came first
abbrev pub outcome_status : Outcome → ℕ
outcome_status (Done end) = end_status end
outcome_status Lost = 122
outcome_status NotInTime = 124
outcome_status NoService = 125
outcome_status (Stopped signal) = 128 + signal_number signal

-- the same, except that a lost lock has the status that the user chose
abbrev pub chosen_status : ℕ → Outcome → ℕ
chosen_status lost Lost = lost
chosen_status lost outcome = outcome_status outcome
