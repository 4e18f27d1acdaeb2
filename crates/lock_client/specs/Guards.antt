-- How the guard of a command answers what happens to it.
use Rattle.std.specs.Prelude.{ℕ, zero, ◌+◌, Bool, ◌||◌, if◌then◌else◌, nat_lt, Option, Some, None}
use Rattle.std.specs.Prelude.{List}
use Rattle.std.specs.Option.{option_map_or}
use Rattle.lock_client.specs.declared.guard.GuardStage.{GuardStage}
use Rattle.lock_client.specs.declared.guard.GuardStage.TheVariants.{Idle, Watching, Searching, Asked, Killed, Waiting, Over}
use Rattle.lock_client.specs.declared.guard.GuardEvent.{GuardEvent}
use Rattle.lock_client.specs.declared.guard.GuardEvent.TheVariants.{Said, Closed, Looked, GraceIsOver}
use Rattle.lock_client.specs.declared.guard.GuardDeed.{GuardDeed}
use Rattle.lock_client.specs.declared.guard.GuardDeed.TheVariants.{Listen, Look, Ask, Kill, End}
use Rattle.lock_client.specs.declared.words.GuardWord.TheVariants as word
use Rattle.lock_client.specs.Courses.{after_all, deeds_of}

-- a guard to which no command was announced releases the lock when its client is done or gone; it
-- watches once one is announced
abbrev pub idle_after : GuardEvent → GuardStage
idle_after (Said word.Start) = Watching
idle_after (Said word.Done) = Over
idle_after Closed = Over
idle_after _ = Idle

-- once a command was announced, the guard looks for it when the client is gone
abbrev pub watching_after : GuardEvent → GuardStage
watching_after (Said word.Done) = Over
watching_after Closed = Searching 0
watching_after _ = Watching

-- the fourth look in a row that finds nobody is enough
abbrev pub unseen : ℕ → Option ℕ
unseen quiet = if nat_lt quiet 3 then Some (quiet + 1) else None

-- how many looks in a row have found nobody after an event, if `quiet` had before it; a look that
-- finds somebody starts the count again
abbrev pub quiet_after : GuardEvent → ℕ → Option ℕ
quiet_after (Looked sight) quiet = if sight.somebody then Some 0 else unseen quiet
quiet_after _ quiet = Some quiet

abbrev pub killed_after : GuardEvent → ℕ → GuardStage
killed_after event quiet = option_map_or Killed (quiet_after event quiet) Over

abbrev pub waiting_after : GuardEvent → ℕ → GuardStage
waiting_after event quiet = option_map_or Waiting (quiet_after event quiet) Over

-- a command that was asked to end is killed when its time is up
abbrev pub asked_after : GuardEvent → ℕ → GuardStage
asked_after GraceIsOver quiet = Killed 0
asked_after event quiet = option_map_or Asked (quiet_after event quiet) Over

-- a command that may run on, or has had the signal itself, is left to end; any other is asked to
-- end when found
abbrev pub searching_after : Bool → GuardEvent → ℕ → GuardStage
searching_after keeps (Looked sight) quiet =
    if keeps || sight.signalled then waiting_after (Looked sight) quiet
    else if sight.somebody then Asked 0
    else option_map_or Searching (unseen quiet) Over
searching_after keeps _ quiet = Searching quiet

-- the stage after an event
abbrev pub guard_after : Bool → GuardEvent → GuardStage → GuardStage
guard_after keeps event Idle = idle_after event
guard_after keeps event Watching = watching_after event
guard_after keeps event (Searching quiet) = searching_after keeps event quiet
guard_after keeps event (Asked quiet) = asked_after event quiet
guard_after keeps event (Killed quiet) = killed_after event quiet
guard_after keeps event (Waiting quiet) = waiting_after event quiet
guard_after keeps event Over = Over

-- what to do at a stage, by the stage before it; processes that are still there are killed again
abbrev pub guard_deed : GuardStage → GuardStage → GuardDeed
guard_deed _ Over = End
guard_deed _ Idle = Listen
guard_deed _ Watching = Listen
guard_deed (Searching quiet) (Asked _) = Ask
guard_deed _ (Killed zero) = Kill
guard_deed _ _ = Look

-- how many milliseconds it rests before a look; it looks less often for a command that is left to
-- end, as long as its looks find somebody
abbrev pub look_rest : GuardStage → ℕ
look_rest (Waiting zero) = 200
look_rest _ = 50

-- the stage after a list of events, and their deeds, one after the other
abbrev pub guard_after_all : Bool → GuardStage → List GuardEvent → GuardStage
guard_after_all keeps stage events = after_all (guard_after keeps) stage events

abbrev pub guard_deeds : Bool → GuardStage → List GuardEvent → List GuardDeed
guard_deeds keeps stage events = deeds_of (guard_after keeps) (λ e. guard_deed) stage events
