-- Small examples of the parts of a client's and a guard's rule, and ones that fail.
use Rattle.std.proofs.Common.{◌≡◌, Bool, true, false, [], ◌∷◌, map, None, Some, refl, codes, inl, inr, arith}
use Rattle.lock_client.specs.declared.answer.Answer.TheVariants as answer
use Rattle.lock_client.specs.declared.outcome.CommandEnd.TheVariants.{Exited, Killed, CannotRun}
use Rattle.lock_client.specs.declared.outcome.Outcome.TheVariants.{Done, Lost}
use Rattle.held_signals.specs.declared.signals.Signal.TheVariants.{Terminate, Quit}
use Rattle.lock_client.specs.declared.client.ClientStage.TheVariants.{Asking, Holding, Losing, Returning, Over}
use Rattle.lock_client.specs.declared.client.ClientEvent.TheVariants.{Line, Gone, TimeIsUp, Ended, GuardGone, Signal}
use Rattle.lock_client.specs.declared.client.ClientDeed.{ClientDeed}
use Rattle.lock_client.specs.declared.client.ClientDeed.TheVariants.{Wait, AskAgain, Start, PassOn, GiveBack, EndCommand, SayLost, Finish}
use Rattle.lock_client.specs.declared.guard.GuardStage.TheVariants as guard
use Rattle.lock_client.specs.declared.guard.GuardEvent.TheVariants.{Said, Closed, Looked, GraceIsOver}
use Rattle.lock_client.specs.declared.guard.GuardDeed.TheVariants as deed
use Rattle.lock_client.specs.declared.words.GuardWord.TheVariants as word
use Rattle.lock_client.specs.Outcome.{end_status}
use Rattle.lock_client.specs.Steps.{asking_after, holding_after, losing_after, returning_after, stage_after, in_doubt, losing_deed, running_deed, lost_deed, deed_between}
use Rattle.lock_client.specs.Laws.{IsDoneOnce, IsHarmless, IsReleasedNext, IsHeldToTheEnd, IsWaiting}
use Rattle.lock_client.specs.Laws.{is_start, is_giving_back, is_ending, is_loss}
use Rattle.lock_client.specs.Guards.{idle_after, watching_after, unseen, quiet_after, searching_after, asked_after, killed_after, waiting_after, guard_deed, look_rest}
use Rattle.lock_client.specs.GuardLaws.{is_asking}
use Rattle.held_signals.specs.Signals.{signal_number}
use Rattle.lock_client.specs.Words.{process_number}
use Rattle.lock_client.proofs.Counting.{starts}

-- ---- a client

-- a client that asks keeps waiting if the desk is full, and a signal ends it
asks-granted : asking_after (Line answer.Granted) ≡ Holding
asks-granted = refl

asks-full : asking_after (Line answer.Full) ≡ Asking
asks-full = refl

-- any word puts the lock in doubt, and a signal does not
holds-word : holding_after (Line answer.Released) ≡ Losing
holds-word = refl

holds-guard : holding_after GuardGone ≡ Losing
holds-guard = refl

holds_not-signal : holding_after (Signal Terminate) ≡ Holding
holds_not-signal = refl

loses-end : losing_after false (Ended (Exited 0)) ≡ Over Lost
loses-end = refl

loses-kept : losing_after true (Ended (Exited 0)) ≡ Over (Done (Exited 0))
loses-kept = refl

loses_not-released : losing_after false (Line answer.Released) ≡ Losing
loses_not-released = refl

returns-released : returning_after false (Line answer.Released) (Exited 3) ≡ Over (Done (Exited 3))
returns-released = refl

returns_not-lost : returning_after false (Line answer.Lost) (Exited 3) ≡ Over Lost
returns_not-lost = refl

returns_not-late : returning_after false TimeIsUp (Exited 3) ≡ Over Lost
returns_not-late = refl

-- what is over stays so
stays-over : stage_after false (Line answer.Granted) (Over Lost) ≡ Over Lost
stays-over = refl

doubt-kept : in_doubt true (Exited 3) ≡ Done (Exited 3)
doubt-kept = refl

doubt_not-kept : in_doubt false (Exited 3) ≡ Lost
doubt_not-kept = refl

-- ---- deeds

says-lost : losing_deed true ≡ SayLost
says-lost = refl

ends-command : losing_deed false ≡ EndCommand
ends-command = refl

-- only SIGTERM is passed on, and no longer once the command was asked to end
hands-on : running_deed (Signal Terminate) ≡ PassOn
hands-on = refl

hands_not-on : running_deed (Signal Quit) ≡ Wait
hands_not-on = refl

hands_not-on_lost : lost_deed false (Signal Terminate) ≡ Wait
hands_not-on_lost = refl

starts-once : deed_between false (Line answer.Granted) Asking Holding ≡ Start
starts-once = refl

starts_not-again : deed_between false TimeIsUp Holding Holding ≡ Wait
starts_not-again = refl

gives-back : deed_between false (Ended (Exited 0)) Holding (Returning (Exited 0)) ≡ GiveBack
gives-back = refl

gives_not-back : deed_between false GuardGone (Returning (Exited 0)) (Returning (Exited 0)) ≡ Wait
gives_not-back = refl

-- ---- words of the laws

harmless : IsHarmless (Signal Terminate)
harmless = tt

harmless_not-word : ¬ IsHarmless (Line answer.Lost)
harmless_not-word none = none

released-next : IsReleasedNext (GuardGone ∷ Line answer.Released ∷ [])
released-next = inr (tt, inl refl)

released_not-next : ¬ IsReleasedNext (Line answer.Lost ∷ Line answer.Released ∷ [])
released_not-next (inl e) = grind (arith, e)
released_not-next (inr (none, next)) = none

held-to-the-end : IsHeldToTheEnd (Exited 0) (TimeIsUp ∷ Ended (Exited 0) ∷ Line answer.Released ∷ [])
held-to-the-end = inr (inl refl, inl (refl, inl refl))

held_not-without-guard : ¬ IsHeldToTheEnd (Exited 0) (GuardGone ∷ Ended (Exited 0) ∷ Line answer.Released ∷ [])
held_not-without-guard held = grind (arith, held)

held_not-other-end : ¬ IsHeldToTheEnd (Exited 0) (Ended (Exited 1) ∷ Line answer.Released ∷ [])
held_not-other-end held = grind (arith, held)

waits : IsWaiting Gone
waits = tt

waits_not-granted : ¬ IsWaiting (Line answer.Granted)
waits_not-granted none = none

loss : is_loss GuardGone ≡ true
loss = refl

loss_not-end : is_loss (Ended (Killed 15)) ≡ false
loss_not-end = refl

starting : is_start Start ≡ true
starting = refl

starting_not-ask : is_start AskAgain ≡ false
starting_not-ask = refl

giving : is_giving_back GiveBack ≡ true
giving = refl

giving_not-end : is_giving_back (Finish Lost) ≡ false
giving_not-end = refl

ending : is_ending EndCommand ≡ true
ending = refl

ending_not-passing : is_ending PassOn ≡ false
ending_not-passing = refl

-- a command is started once, but SIGTERM is passed on to it as often as it comes
once-started : IsDoneOnce is_start
once-started keeps events = starts keeps Asking events

abbrev is_passing : ClientDeed → Bool
is_passing PassOn = true
is_passing _ = false

once_not-passed : ¬ IsDoneOnce is_passing
once_not-passed once = omega (arith, once false (Line answer.Granted ∷ Signal Terminate ∷ Signal Terminate ∷ []))

-- ---- a guard

idle-closed : idle_after Closed ≡ guard.Over
idle-closed = refl

idle_not-runs : idle_after (Said (word.Runs 7)) ≡ guard.Idle
idle_not-runs = refl

watches-closed : watching_after Closed ≡ guard.Searching 0
watches-closed = refl

watches-done : watching_after (Said word.Done) ≡ guard.Over
watches-done = refl

unseen-thrice : unseen 2 ≡ Some 3
unseen-thrice = refl

unseen_not-more : unseen 3 ≡ None
unseen_not-more = refl

-- a look that finds nobody counts, one that finds somebody begins again, and what is no look changes nothing
quiet-counts : map (λ event. quiet_after event 2) (Looked (record { somebody = false; signalled = false }) ∷ Looked (record { somebody = true; signalled = false }) ∷ Closed ∷ [])
    ≡ Some 3 ∷ Some 0 ∷ Some 2 ∷ []
quiet-counts = refl

quiet_not-more : quiet_after (Looked (record { somebody = false; signalled = false })) 3 ≡ None
quiet_not-more = refl

asks-found : searching_after false (Looked (record { somebody = true; signalled = false })) 2 ≡ guard.Asked 0
asks-found = refl

asks_not-signalled : searching_after false (Looked (record { somebody = true; signalled = true })) 2 ≡ guard.Waiting 0
asks_not-signalled = refl

kills-late : asked_after GraceIsOver 1 ≡ guard.Killed 0
kills-late = refl

kills_not-waiting : waiting_after GraceIsOver 1 ≡ guard.Waiting 1
kills_not-waiting = refl

killed-seen : killed_after (Looked (record { somebody = false; signalled = false })) 3 ≡ guard.Over
killed-seen = refl

deed-asks : guard_deed (guard.Searching 1) (guard.Asked 0) ≡ deed.Ask
deed-asks = refl

deed_not-again : guard_deed (guard.Asked 1) (guard.Asked 0) ≡ deed.Look
deed_not-again = refl

asking : is_asking deed.Ask ≡ true
asking = refl

asking_not-kill : is_asking deed.Kill ≡ false
asking_not-kill = refl

rests-waiting : look_rest (guard.Waiting 0) ≡ 200
rests-waiting = refl

rests_not-unseen : look_rest (guard.Waiting 1) ≡ 50
rests_not-unseen = refl

-- ---- numbers

status-signal : end_status (Killed 15) ≡ 143
status-signal = refl

status_not-beyond : end_status (Killed 200) ≡ 255
status_not-beyond = refl

status-cannot : end_status CannotRun ≡ 126
status-cannot = refl

number-terminate : signal_number Terminate ≡ 15
number-terminate = refl

process-most : process_number (codes "4194304") ≡ Some 4194304
process-most = refl

process_not-more : process_number (codes "4194305") ≡ None
process_not-more = refl
