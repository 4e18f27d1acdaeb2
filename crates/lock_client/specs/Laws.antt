-- Laws of a client of the lock: what users may rely on.
use Rattle.std.specs.Prelude.{◌≡◌, ◌⊎◌, ◌↔◌, ◌≤◌, Bool, true, false, List, [], ◌∷◌, filter, length}
use Rattle.lock_client.specs.declared.answer.Answer.{Answer}
use Rattle.lock_client.specs.declared.answer.Answer.TheVariants as answer
use Rattle.lock_client.specs.declared.outcome.CommandEnd.{CommandEnd}
use Rattle.lock_client.specs.declared.outcome.Outcome.{Outcome}
use Rattle.lock_client.specs.declared.outcome.Outcome.TheVariants.{Done, Lost, NotInTime, NoService, Stopped}
use Rattle.held_signals.specs.declared.signals.Signal.{Signal}
use Rattle.held_signals.specs.declared.signals.Signal.TheVariants.{Terminate}
use Rattle.lock_client.specs.declared.client.ClientStage.TheVariants.{Asking, Holding, Losing, Returning, Over}
use Rattle.lock_client.specs.declared.client.ClientEvent.{ClientEvent}
use Rattle.lock_client.specs.declared.client.ClientEvent.TheVariants as event
use Rattle.lock_client.specs.declared.client.ClientDeed.{ClientDeed}
use Rattle.lock_client.specs.declared.client.ClientDeed.TheVariants.{Start, GiveBack, EndCommand, PassOn}
use Rattle.lock_client.specs.Steps.{stage_after, stage_after_all, deed_between, deeds}

-- what raises no doubt once the command has ended: another end, the end of the guard, a signal
abbrev pub IsHarmless : ClientEvent → Type 0
IsHarmless (event.Ended end) = Unit {0}
IsHarmless event.GuardGone = Unit {0}
IsHarmless (event.Signal signal) = Unit {0}
IsHarmless _ = ⊥

-- the next event, apart from harmless ones, is that the node said `released`
abbrev pub IsReleasedNext : List ClientEvent → Type 0
IsReleasedNext [] = ⊥
IsReleasedNext (e ∷ es) =
    (e ≡ event.Line answer.Released) ⊎ (IsHarmless e × IsReleasedNext es)

-- nothing came from the node and the guard lived until the command ended like this, and next the
-- node said `released`
abbrev pub IsHeldToTheEnd : CommandEnd → List ClientEvent → Type 0
IsHeldToTheEnd end [] = ⊥
IsHeldToTheEnd end (e ∷ es) =
    ((e ≡ event.Ended end) × IsReleasedNext es)
    ⊎ (((e ≡ event.TimeIsUp) ⊎ ((signal : Signal) × (e ≡ event.Signal signal)))
    × IsHeldToTheEnd end es)

-- what leaves a client waiting: no room, a closed connection, the end of a guard that was started
-- early, and the end of a command, though none has started
abbrev pub IsWaiting : ClientEvent → Type 0
IsWaiting (event.Line answer.Full) = Unit {0}
IsWaiting event.Gone = Unit {0}
IsWaiting (event.Ended end) = Unit {0}
IsWaiting event.GuardGone = Unit {0}
IsWaiting _ = ⊥

-- the lock was held all the while and the guard lived, and the release was confirmed: the node said
-- nothing but `full` until it said `granted`, then nothing until the command ended like this, and
-- then `released`
abbrev pub HeldThroughout : CommandEnd → List ClientEvent → Type 0
HeldThroughout end [] = ⊥
HeldThroughout end (e ∷ es) =
    ((e ≡ event.Line answer.Granted) × IsHeldToTheEnd end es)
    ⊎ (IsWaiting e × HeldThroughout end es)

-- unless the command may run on, its own status is returned exactly if the lock was held all the
-- while and the guard lived, and the node then confirmed the release
abbrev pub HeldThroughoutLaw : Type 0
HeldThroughoutLaw =
    (end : CommandEnd) (events : List ClientEvent)
    → (stage_after_all false Asking events ≡ Over (Done end)) ↔ HeldThroughout end events

-- the command is started; the lock is released; the command is asked to end
abbrev pub is_start : ClientDeed → Bool
is_start Start = true
is_start _ = false

abbrev pub is_giving_back : ClientDeed → Bool
is_giving_back GiveBack = true
is_giving_back _ = false

abbrev pub is_ending : ClientDeed → Bool
is_ending EndCommand = true
is_ending _ = false

-- whatever happens, deeds of this kind are done at most once
abbrev pub IsDoneOnce : (ClientDeed → Bool) → Type 0
IsDoneOnce kind =
    (keeps : Bool) (events : List ClientEvent) → length (filter kind (deeds keeps Asking events)) ≤ 1

-- the command is started at most once, and the lock released at most once
abbrev pub StartsAtMostOnce : Type 0
StartsAtMostOnce = IsDoneOnce is_start

abbrev pub GivesBackOnce : Type 0
GivesBackOnce = IsDoneOnce is_giving_back

-- what takes the lock, or its guard, from a running command
abbrev pub is_loss : ClientEvent → Bool
is_loss (event.Line answer) = true
is_loss event.Gone = true
is_loss event.Unserved = true
is_loss event.GuardGone = true
is_loss _ = false

-- if the node says anything or is gone, or the guard is gone, while the command runs, the command
-- is asked to end, at most once in all, and if the client ends, it always says that the lock was
-- lost; a command that may run on is never asked
pub record EndsWhatLostItsLock : Type 0 where
  pub asks : (e : ClientEvent) → is_loss e ≡ true
      → deed_between false e Holding (stage_after false e Holding) ≡ EndCommand
  pub once : (events : List ClientEvent) → length (filter is_ending (deeds false Asking events)) ≤ 1
  pub lost : (e : ClientEvent) (events : List ClientEvent) (outcome : Outcome) → is_loss e ≡ true
      → stage_after_all false Holding (e ∷ events) ≡ Over outcome → outcome ≡ Lost
  pub kept : (events : List ClientEvent) → filter is_ending (deeds true Asking events) ≡ []

-- a signal ends a client only if no command was started; while a client holds the lock, SIGTERM is
-- passed on to its command, no other signal is, and none changes the client's stage
pub record SignalsAreHeeded : Type 0 where
  pub before : (keeps : Bool) (signal : Signal) (events : List ClientEvent)
      → stage_after_all keeps Asking events ≡ Over (Stopped signal)
      → filter is_start (deeds keeps Asking events) ≡ []
  pub stays : (keeps : Bool) (signal : Signal)
      → stage_after keeps (event.Signal signal) Holding ≡ Holding
  pub handed_on : (keeps : Bool) (signal : Signal)
      → (deed_between keeps (event.Signal signal) Holding Holding ≡ PassOn) ↔ (signal ≡ Terminate)

-- a client that asks ends when its time is up, nobody serves or a signal comes; one that holds the
-- lock releases it when its command ends; one that lost the lock ends when its command does; one
-- that released it ends with the node's next word, when the node is gone, or when the time is up
pub record EndsByItself : Type 0 where
  pub in_time : (keeps : Bool) → stage_after keeps event.TimeIsUp Asking ≡ Over NotInTime
  pub unserved : (keeps : Bool) → stage_after keeps event.Unserved Asking ≡ Over NoService
  pub stopped : (keeps : Bool) (signal : Signal)
      → stage_after keeps (event.Signal signal) Asking ≡ Over (Stopped signal)
  pub gives_back : (keeps : Bool) (end : CommandEnd)
      → stage_after keeps (event.Ended end) Holding ≡ Returning end
  pub lost : (keeps : Bool) (end : CommandEnd) →
      (outcome : Outcome) × (stage_after keeps (event.Ended end) Losing ≡ Over outcome)
  pub heard : (keeps : Bool) (end : CommandEnd) (any : Answer) →
      (outcome : Outcome) × (stage_after keeps (event.Line any) (Returning end) ≡ Over outcome)
  pub left_alone : (keeps : Bool) (end : CommandEnd) →
      (outcome : Outcome) × (stage_after keeps event.Gone (Returning end) ≡ Over outcome)
  pub waited : (keeps : Bool) (end : CommandEnd) →
      (outcome : Outcome) × (stage_after keeps event.TimeIsUp (Returning end) ≡ Over outcome)
