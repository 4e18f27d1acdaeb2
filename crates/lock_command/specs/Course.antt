-- What is due when, in milliseconds since the lock was asked for.
use Rattle.std.specs.Prelude.{◌≡◌, ◌⊎◌, ℕ, ◌+◌, ◌-◌, min, Bool, true, false, ◌&&◌, if◌then◌else◌, nat_lt, nat_le, Option, Some, None}
use Rattle.std.specs.Option.{option_map}
use Rattle.lock_client.specs.declared.client.ClientDeed.{ClientDeed}
use Rattle.lock_client.specs.declared.client.ClientDeed.TheVariants as deed
use Rattle.lock_command.specs.declared.course.Course.{Course}
use Rattle.lock_command.specs.declared.seconds.Seconds.{Seconds}

-- this many milliseconds later, as far as the clock goes
abbrev pub later : ℕ → ℕ → ℕ
later millis now = min (now + millis) 18446744073709551615

-- the lock was just asked for, with this long to wait for it
abbrev pub new_course : Option ℕ → Course
new_course limit = record { time = 0; connected = 0; was_closed = false; started = 0; due = limit; kill_due = None }

-- the same for a limit in seconds
abbrev pub asked_course : Option Seconds → Course
asked_course limit = new_course (option_map (λ s. s.millis) limit)

-- the clock never goes back
abbrev pub timed : ℕ → Course → Course
timed now c = if nat_lt c.time now then record c { time = now } else c

abbrev pub closed : Course → Course
closed c = record c { was_closed = true }

abbrev pub connected : Course → Course
connected c = record c { connected = c.time }

-- the command is started, and no answer is due
abbrev pub started : Course → Course
started c = record c { due = None; started = c.time }

-- the node has 10 seconds to say that it took the lock back
abbrev pub given_back : Course → Course
given_back c = record c { due = Some (later 10000 c.time) }

-- the command has 3 seconds to end
abbrev pub asked_to_end : Course → Course
asked_to_end c = record c { kill_due = Some (later 3000 c.time) }

abbrev pub is_past : Option ℕ → ℕ → Bool
is_past None now = false
is_past (Some due) now = nat_le due now

abbrev pub without_due : Bool → Course → Course
without_due true c = record c { due = None }
without_due false c = c

-- whatever is left is killed again a second later
abbrev pub killed_again : Bool → Course → Course
killed_again true c = record c { kill_due = Some (later 1000 c.time) }
killed_again false c = c

-- the node closed a connection, and the next one has not lasted half a second
abbrev pub lacks_room : Course → Bool
lacks_room c = c.was_closed && nat_lt (c.time - c.connected) 500

abbrev pub age_of : Bool → Course → Option ℕ
age_of true c = Some (c.time - c.started)
age_of false c = None

-- a tenth of a second while it waits for what the command started; else until the time is up
abbrev pub left_of : Bool → Course → Option ℕ
left_of true c = Some 100
left_of false c = option_map (λ due. due - c.time) c.due

-- What a deed changes: the lock is granted, it is released, the command is asked to end, or there is a connection again if one
-- was made.
abbrev pub IsCourseAfter : ClientDeed → Course → Course → Type 0
IsCourseAfter deed.Start old new = new ≡ started old
IsCourseAfter deed.GiveBack old new = new ≡ given_back old
IsCourseAfter deed.EndCommand old new = new ≡ asked_to_end old
IsCourseAfter deed.ConnectAgain old new = (new ≡ old) ⊎ ((now : ℕ) × (new ≡ connected (timed now old)))
IsCourseAfter _ old new = new ≡ old
