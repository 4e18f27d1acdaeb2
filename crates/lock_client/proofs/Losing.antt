-- A client whose lock was lost, if it ends, says that it was lost; and a signal ends a client only
-- before its command.
use Rattle.std.proofs.Common.{◌≡◌, ◌⊎◌, ◌↔◌, Bool, true, false, List, [], ◌∷◌, filter, arith, refl}
use Rattle.std.proofs.lemmas.Grind.{common_steps}
use Rattle.lock_client.specs.declared.outcome.Outcome.{Outcome}
use Rattle.lock_client.specs.declared.outcome.Outcome.TheVariants.{Lost, NotInTime, NoService, Stopped}
use Rattle.lock_client.specs.declared.answer.Answer.TheVariants as answer
use Rattle.held_signals.specs.declared.signals.Signal.TheVariants.{HangUp, Interrupt, Quit, Terminate}
use Rattle.lock_client.specs.declared.client.ClientEvent.TheVariants as event
use Rattle.held_signals.specs.declared.signals.Signal.{Signal}
use Rattle.lock_client.specs.declared.client.ClientStage.{ClientStage}
use Rattle.lock_client.specs.declared.client.ClientStage.TheVariants.{Asking, Holding, Losing, Over}
use Rattle.lock_client.specs.declared.client.ClientEvent.{ClientEvent}
use Rattle.lock_client.specs.declared.client.ClientDeed.TheVariants.{EndCommand, PassOn}
use Rattle.lock_client.specs.Steps.{stage_after_all, stage_after, deed_between, deeds}
use Rattle.lock_client.specs.Laws.{is_loss, is_start}

over : (keeps : Bool) (outcome : Outcome) (events : List ClientEvent) → stage_after_all keeps (Over outcome) events ≡ Over outcome
over keeps outcome [] = refl
over keeps outcome (e ∷ es) = over keeps outcome es

-- the stages of a client that lost the lock
abbrev IsLosing : ClientStage → Type 0
IsLosing stage = (stage ≡ Losing) ⊎ (stage ≡ Over Lost)

stays-losing : (e : ClientEvent) (stage : ClientStage) → IsLosing stage → IsLosing (stage_after false e stage)
stays-losing e stage losing = grind (arith, common_steps)

all-losing : (events : List ClientEvent) (stage : ClientStage) → IsLosing stage → IsLosing (stage_after_all false stage events)
all-losing [] stage losing = losing
all-losing (e ∷ es) stage losing = all-losing es (stage_after false e stage) (stays-losing e stage losing)

only-lost : (stage : ClientStage) (outcome : Outcome) → IsLosing stage → stage ≡ Over outcome → outcome ≡ Lost
only-lost stage outcome losing same = grind (arith, common_steps)

loses : (e : ClientEvent) → is_loss e ≡ true → IsLosing (stage_after false e Holding)
loses e loss = grind (arith, common_steps)

pub asks : (e : ClientEvent) → is_loss e ≡ true → deed_between false e Holding (stage_after false e Holding) ≡ EndCommand
asks e loss = grind (arith, common_steps)

pub lost : (e : ClientEvent) (events : List ClientEvent) (outcome : Outcome) → is_loss e ≡ true
    → stage_after_all false Holding (e ∷ events) ≡ Over outcome → outcome ≡ Lost
lost e events outcome loss same =
    only-lost (stage_after_all false (stage_after false e Holding) events) outcome (all-losing events (stage_after false e Holding) (loses e loss)) same

-- no signal stops a client that is past asking
abbrev IsPast : Signal → ClientStage → Type 0
IsPast signal stage = (stage ≡ Asking → ⊥) × (stage ≡ Over (Stopped signal) → ⊥)

stays-past : (keeps : Bool) (signal : Signal) (e : ClientEvent) (stage : ClientStage) → IsPast signal stage → IsPast signal (stage_after keeps e stage)
stays-past keeps signal e stage past = grind (arith, common_steps)

all-past : (keeps : Bool) (signal : Signal) (events : List ClientEvent) (stage : ClientStage) → IsPast signal stage → IsPast signal (stage_after_all keeps stage events)
all-past keeps signal [] stage past = past
all-past keeps signal (e ∷ es) stage past = all-past keeps signal es (stage_after keeps e stage) (stays-past keeps signal e stage past)

holding-past : (signal : Signal) → IsPast signal Holding
holding-past signal = grind arith

no-start : (keeps : Bool) (outcome : Outcome) (events : List ClientEvent) → filter is_start (deeds keeps (Over outcome) events) ≡ []
no-start keeps outcome [] = refl
no-start keeps outcome (e ∷ es) = no-start keeps outcome es

pub before : (keeps : Bool) (signal : Signal) (events : List ClientEvent) → stage_after_all keeps Asking events ≡ Over (Stopped signal)
    → filter is_start (deeds keeps Asking events) ≡ []
before keeps signal [] same = refl
before keeps signal (event.Line answer.Granted ∷ es) same = elim ((all-past keeps signal es Holding (holding-past signal)).1 same) [ ]
before keeps signal (event.Line answer.Full ∷ es) same = before keeps signal es same
before keeps signal (event.Line answer.Lost ∷ es) same = no-start keeps NoService es
before keeps signal (event.Line answer.Released ∷ es) same = no-start keeps NoService es
before keeps signal (event.Line answer.Twice ∷ es) same = no-start keeps NoService es
before keeps signal (event.Line answer.Stranger ∷ es) same = no-start keeps NoService es
before keeps signal (event.Line answer.Unknown ∷ es) same = no-start keeps NoService es
before keeps signal (event.Line answer.Other ∷ es) same = no-start keeps NoService es
before keeps signal (event.Gone ∷ es) same = before keeps signal es same
before keeps signal (event.Unserved ∷ es) same = no-start keeps NoService es
before keeps signal (event.TimeIsUp ∷ es) same = no-start keeps NotInTime es
before keeps signal (event.Ended end ∷ es) same = before keeps signal es same
before keeps signal (event.GuardGone ∷ es) same = before keeps signal es same
before keeps signal (event.Signal other ∷ es) same = no-start keeps (Stopped other) es

-- SIGTERM alone is handed on
pub handed : (keeps : Bool) (signal : Signal)
    → (deed_between keeps (event.Signal signal) Holding Holding ≡ PassOn) ↔ (signal ≡ Terminate)
handed keeps HangUp = (λ same. grind arith, λ same. grind arith)
handed keeps Interrupt = (λ same. grind arith, λ same. grind arith)
handed keeps Quit = (λ same. grind arith, λ same. grind arith)
handed keeps Terminate = (λ same. refl, λ same. refl)
