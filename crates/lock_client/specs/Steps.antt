-- How a client of the lock answers what happens to it.
use Rattle.std.specs.Prelude.{Bool, true, false, List}
use Rattle.lock_client.specs.declared.answer.Answer.TheVariants as answer
use Rattle.lock_client.specs.declared.outcome.CommandEnd.{CommandEnd}
use Rattle.lock_client.specs.declared.outcome.Outcome.{Outcome}
use Rattle.lock_client.specs.declared.outcome.Outcome.TheVariants.{Done, Lost, NotInTime, NoService, Stopped}
use Rattle.held_signals.specs.declared.signals.Signal.TheVariants.{Terminate}
use Rattle.lock_client.specs.declared.client.ClientStage.{ClientStage}
use Rattle.lock_client.specs.declared.client.ClientStage.TheVariants.{Asking, Holding, Losing, Returning, Over}
use Rattle.lock_client.specs.declared.client.ClientEvent.{ClientEvent}
use Rattle.lock_client.specs.declared.client.ClientEvent.TheVariants.{Line, Gone, Unserved, TimeIsUp, Ended, GuardGone, Signal}
use Rattle.lock_client.specs.declared.client.ClientDeed.{ClientDeed}
use Rattle.lock_client.specs.declared.client.ClientDeed.TheVariants.{Wait, AskAgain, ConnectAgain, Start, PassOn}
use Rattle.lock_client.specs.declared.client.ClientDeed.TheVariants.{GiveBack, EndCommand, SayLost, Finish}
use Rattle.lock_client.specs.Courses.{after_all, deeds_of}

-- a client that asked holds the lock once it is granted, and asks again if there was no room or
-- the node closed the connection; any other word, no listener, a time that is up or a signal ends
-- it
abbrev pub asking_after : ClientEvent → ClientStage
asking_after (Line answer.Granted) = Holding
asking_after (Line answer.Full) = Asking
asking_after (Line _) = Over NoService
asking_after Gone = Asking
asking_after Unserved = Over NoService
asking_after TimeIsUp = Over NotInTime
asking_after (Ended end) = Asking
asking_after GuardGone = Asking
asking_after (Signal signal) = Over (Stopped signal)

-- a client that holds the lock releases it when its command ends; any word of the node, a node that
-- is gone, and the end of the guard put the lock in doubt; signals and a time that is up do not
abbrev pub holding_after : ClientEvent → ClientStage
holding_after (Line _) = Losing
holding_after Gone = Losing
holding_after Unserved = Losing
holding_after TimeIsUp = Holding
holding_after (Ended end) = Returning end
holding_after GuardGone = Losing
holding_after (Signal signal) = Holding

-- if the lock may have been lost while the command ran, the client ends with that, unless it was
-- asked to let the command run on
abbrev pub in_doubt : Bool → CommandEnd → Outcome
in_doubt true end = Done end
in_doubt false end = Lost

-- without the lock, the client waits for the end of the command
abbrev pub losing_after : Bool → ClientEvent → ClientStage
losing_after keeps (Ended end) = Over (in_doubt keeps end)
losing_after keeps _ = Losing

-- once the command has ended, all is well if the node says that the lock was released; the guard
-- has nothing more to hold, and a signal comes too late; anything else puts the lock in doubt
abbrev pub returning_after : Bool → ClientEvent → CommandEnd → ClientStage
returning_after keeps (Line answer.Released) end = Over (Done end)
returning_after keeps (Ended again) end = Returning end
returning_after keeps GuardGone end = Returning end
returning_after keeps (Signal signal) end = Returning end
returning_after keeps _ end = Over (in_doubt keeps end)

-- the stage after an event
abbrev pub stage_after : Bool → ClientEvent → ClientStage → ClientStage
stage_after keeps event Asking = asking_after event
stage_after keeps event Holding = holding_after event
stage_after keeps event Losing = losing_after keeps event
stage_after keeps event (Returning end) = returning_after keeps event end
stage_after keeps event (Over outcome) = Over outcome

-- what to do if the lock is lost: say so, and end the command unless it may run on
abbrev pub losing_deed : Bool → ClientDeed
losing_deed true = SayLost
losing_deed false = EndCommand

-- if the desk was full the client asks again; if the node closed the connection it connects again
abbrev pub asking_deed : ClientEvent → ClientDeed
asking_deed (Line answer.Full) = AskAgain
asking_deed Gone = ConnectAgain
asking_deed _ = Wait

-- SIGTERM is passed on to a running command
abbrev pub running_deed : ClientEvent → ClientDeed
running_deed (Signal Terminate) = PassOn
running_deed _ = Wait

-- a command that lost the lock was asked to end, unless it may run on
abbrev pub lost_deed : Bool → ClientEvent → ClientDeed
lost_deed true event = running_deed event
lost_deed false event = Wait

-- what to do between one stage and the next
abbrev pub deed_between : Bool → ClientEvent → ClientStage → ClientStage → ClientDeed
deed_between keeps event _ (Over outcome) = Finish outcome
deed_between keeps event _ Asking = asking_deed event
deed_between keeps event Asking Holding = Start
deed_between keeps event _ Holding = running_deed event
deed_between keeps event Holding (Returning end) = GiveBack
deed_between keeps event _ (Returning end) = Wait
deed_between keeps event Holding Losing = losing_deed keeps
deed_between keeps event _ Losing = lost_deed keeps event

-- the stage after a list of events
abbrev pub stage_after_all : Bool → ClientStage → List ClientEvent → ClientStage
stage_after_all keeps stage events = after_all (stage_after keeps) stage events

-- the deeds of these events, one after the other
abbrev pub deeds : Bool → ClientStage → List ClientEvent → List ClientDeed
deeds keeps stage events = deeds_of (stage_after keeps) (deed_between keeps) stage events
