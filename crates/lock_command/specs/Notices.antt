-- Which line is reported when.
use Rattle.std.specs.Prelude.{ℕ, Bool, true, false, Option, Some, None}
use Rattle.std.specs.declared.io.ErrorKind.{ErrorKind}
use Rattle.std.specs.declared.io.ErrorKind.TheVariants as kind
use Rattle.lock_client.specs.declared.client.ClientEvent.{ClientEvent}
use Rattle.lock_client.specs.declared.client.ClientEvent.TheVariants as event
use Rattle.lock_client.specs.declared.outcome.Outcome.{Outcome}
use Rattle.lock_client.specs.declared.outcome.Outcome.TheVariants as outcome
use Rattle.lock_command.specs.declared.notice.Fate.{Fate}
use Rattle.lock_command.specs.declared.notice.Cause.TheVariants as cause
use Rattle.lock_command.specs.declared.notice.Notice.{Notice}
use Rattle.lock_client.specs.declared.answer.Answer.TheVariants as answer
use Rattle.lock_client.specs.declared.client.ClientDeed.{ClientDeed}
use Rattle.lock_client.specs.declared.client.ClientDeed.TheVariants as deed
use Rattle.lock_command.specs.declared.notice.Notice.TheVariants.{Lost, GuardGone, NoService, NotInTime, NoRoom, InDoubt, NoNode}
use Rattle.lock_command.specs.declared.notice.Notice.TheVariants.{WentAway, Granted, Released, Memory, System}
use Rattle.lock_command.specs.declared.seconds.Seconds.{Seconds}

-- a lock is lost by its guard's end, by a connection that is gone, or by a word of the node
abbrev pub loss_notice : ℕ → ClientEvent → Fate → Notice
loss_notice node event.GuardGone command = GuardGone command
loss_notice node event.Gone command = Lost node cause.WentAway command
loss_notice node _ command = Lost node cause.Ended command

-- at the end nothing is reported about a command's own end, a signal, a loss that was reported
-- before, or a node that could not be reached
abbrev pub end_notice : ℕ → Notice → ClientEvent → Outcome → Option Notice
end_notice node waited event.Unserved outcome.NoService = None
end_notice node waited event outcome.NoService = Some (NoService node)
end_notice node waited event outcome.NotInTime = Some waited
end_notice node waited (event.Ended end) outcome.Lost = None
end_notice node waited event outcome.Lost = Some (InDoubt node)
end_notice node waited event (outcome.Done end) = None
end_notice node waited event (outcome.Stopped signal) = None

-- the lock is granted when the command starts, and released if the node says so at the end
abbrev pub course_notice : ℕ → ClientEvent → ClientDeed → Option Notice
course_notice node event deed.Start = Some (Granted node)
course_notice node (event.Line answer.Released) (deed.Finish (outcome.Done end)) = Some (Released node)
course_notice node event deed = None

-- a node that closed a connection, and then has no listener, went away
abbrev pub why_unserved : Notice → Notice
why_unserved (NoNode folder node) = WentAway node
why_unserved notice = notice

-- the lock was not granted in time: the node had no room for a client, or did not lend it
abbrev pub vain_notice : Bool → ℕ → Option Seconds → Notice
vain_notice true node limit = NoRoom node
vain_notice false node (Some limit) = NotInTime node limit
vain_notice false node None = NotInTime node (record { millis = 0 })

-- the system cannot wait
abbrev pub no_wait_notice : ErrorKind → Notice
no_wait_notice kind.OutOfMemory = Memory
no_wait_notice _ = System
