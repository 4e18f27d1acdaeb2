-- What is done under the lock, how it goes on, and how it ends.
use Rattle.std.specs.Prelude.{◌≡◌, ◌⊎◌, Bool, true, false, Option, Some, None}
use Rattle.lock_client.specs.declared.outcome.CommandEnd.{CommandEnd}
use Rattle.lock_client.specs.declared.outcome.CommandEnd.TheVariants.{Exited, Killed}
use Rattle.lock_client.specs.declared.client.ClientEvent.{ClientEvent}
use Rattle.lock_client.specs.declared.client.ClientEvent.TheVariants as event
use Rattle.held_signals.specs.declared.signals.Signal.{Signal}
use Rattle.held_signals.specs.Signals.{signal_number}
use Rattle.lock_command.specs.declared.work.Work.{Work}
use Rattle.lock_command.specs.declared.work.Work.TheVariants as work

-- a command runs; only a look shows its end
abbrev pub is_running : {P A B C : Type 0} → Work P A B C → Bool
is_running (work.Running child) = true
is_running _ = false

-- the command has ended, and what it started has not
abbrev pub is_family : {P A B C : Type 0} → Work P A B C → Bool
is_family (work.Family end) = true
is_family _ = false

-- how it ended: finished work as noted; a command in any way, since only the system knows it;
-- standard input with 0, and only if it has something to read
abbrev pub EndsSo : {P A B C : Type 0} → Work P A B C → Bool → Option CommandEnd → Type 0
EndsSo work.None has_input end = end ≡ None
EndsSo (work.Running child) has_input end = Unit {0}
EndsSo (work.Family reported) has_input end = end ≡ None
EndsSo work.Input false end = end ≡ None
EndsSo work.Input true end = (end ≡ None) ⊎ (end ≡ Some (Exited 0))
EndsSo (work.Done reported) has_input end = end ≡ Some reported

-- once what the command started is gone, its end is reported
abbrev pub FamilyEndsSo : {P A B C : Type 0} → Work P A B C → Option CommandEnd → Type 0
FamilyEndsSo (work.Family reported) end = (end ≡ None) ⊎ (end ≡ Some reported)
FamilyEndsSo _ end = end ≡ None

-- what has ended is over; else it goes on, and a command keeps running
abbrev pub GoesOn : {P A B C : Type 0} → Option CommandEnd → Work P A B C → Work P A B C → Type 0
GoesOn (Some end) old new = new ≡ work.None
GoesOn None (work.Running child) new = is_running new ≡ true
GoesOn None old new = new ≡ old

-- after it was asked to end: a command runs until it has ended; standard input is no longer read,
-- as if it had ended like this
abbrev pub IsAsked : {P A B C : Type 0} → CommandEnd → Work P A B C → Work P A B C → Type 0
IsAsked end (work.Running child) new = is_running new ≡ true
IsAsked end work.Input new = new ≡ work.Done end
IsAsked end old new = new ≡ old

-- after it was killed: a command runs until its end is seen
abbrev pub IsKilled : {P A B C : Type 0} → Work P A B C → Work P A B C → Type 0
IsKilled (work.Running child) new = is_running new ≡ true
IsKilled old new = new ≡ old

-- a signal ends the wait for standard input, as it would end a command; in any other work it is only reported
abbrev pub signal_event : {P A B C : Type 0} → Work P A B C → Signal → ClientEvent
signal_event work.Input signal = event.Ended (Killed (signal_number signal))
signal_event _ signal = event.Signal signal

abbrev pub after_signal : {P A B C : Type 0} → Work P A B C → Work P A B C
after_signal work.Input = work.None
after_signal old = old
