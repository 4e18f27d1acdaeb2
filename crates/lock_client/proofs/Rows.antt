-- Small examples of each definition, and ones that fail.
use Rattle.std.proofs.Common.{◌≡◌, ◌++◌, true, false, List, [], ◌∷◌, refl, codes, inl, inr, arith}
use Rattle.lock_client.specs.declared.answer.Answer.TheVariants as answer
use Rattle.lock_client.specs.declared.outcome.CommandEnd.TheVariants.{Exited, Killed, CannotRun, NotThere, NotGuarded}
use Rattle.held_signals.specs.declared.signals.Signal.TheVariants.{Interrupt, Terminate}
use Rattle.lock_client.specs.declared.outcome.Outcome.TheVariants.{Done, Lost, NotInTime, NoService, Stopped}
use Rattle.lock_client.specs.declared.client.ClientStage.TheVariants.{Asking, Over}
use Rattle.lock_client.specs.declared.client.ClientEvent.{ClientEvent}
use Rattle.lock_client.specs.declared.client.ClientEvent.TheVariants.{Line, Gone, Unserved, TimeIsUp, Ended, GuardGone, Signal}
use Rattle.lock_client.specs.declared.client.ClientDeed.TheVariants.{Wait, AskAgain, ConnectAgain, Start, PassOn}
use Rattle.lock_client.specs.declared.client.ClientDeed.TheVariants.{GiveBack, EndCommand, SayLost, Finish}
use Rattle.lock_client.specs.Lines.{answer_line, answer_lines}
use Rattle.lock_client.specs.Outcome.{outcome_status}
use Rattle.lock_client.specs.Steps.{stage_after_all, deeds}
use Rattle.lock_client.specs.Laws.{HeldThroughout}

-- an answer is read byte for byte
reads-granted : answer_lines (codes "granted" ++ 10 ∷ codes "los") ≡ answer.Granted ∷ []
reads-granted = refl

reads_not-upper : answer_line (codes "Granted") ≡ answer.Other
reads_not-upper = refl

reads_not-space : answer_line (codes "lost ") ≡ answer.Other
reads_not-space = refl

-- statuses: the command's own, signal 9, no right to run it, no such command; and those of a lock
-- that failed
status-own : outcome_status (Done (Exited 3)) ≡ 3
status-own = refl

status-killed : outcome_status (Done (Killed 9)) ≡ 137
status-killed = refl

status-cannot : outcome_status (Done CannotRun) ≡ 126
status-cannot = refl

status-absent : outcome_status (Done NotThere) ≡ 127
status-absent = refl

status-lost : outcome_status Lost ≡ 122
status-lost = refl

status-late : outcome_status NotInTime ≡ 124
status-late = refl

status-no_service : outcome_status NoService ≡ 125
status-no_service = refl

-- one lock, with a full desk first: the command runs once, and the lock is released once
one_lock : List ClientEvent
one_lock = Line answer.Full ∷ Line answer.Granted ∷ TimeIsUp ∷ Ended (Exited 0) ∷ Line answer.Released ∷ []

does-one_lock : deeds false Asking one_lock ≡ AskAgain ∷ Start ∷ Wait ∷ GiveBack ∷ Finish (Done (Exited 0)) ∷ []
unfolding one_lock
does-one_lock = refl

holds-one_lock : HeldThroughout (Exited 0) one_lock
unfolding one_lock
holds-one_lock = inr (record {}, inl (refl, inr (inl refl, inl (refl, inl refl))))

-- the lock is lost while the command runs: it is ended, and its status counts for nothing
lost_lock : List ClientEvent
lost_lock = Line answer.Granted ∷ Line answer.Lost ∷ Ended (Exited 0) ∷ []

does-lost_lock : deeds false Asking lost_lock ≡ Start ∷ EndCommand ∷ Finish Lost ∷ []
unfolding lost_lock
does-lost_lock = refl

holds_not-lost_lock : HeldThroughout (Exited 0) lost_lock → ⊥
unfolding lost_lock
holds_not-lost_lock held = grind arith

-- unless it may run on
does-kept : deeds true Asking lost_lock ≡ Start ∷ SayLost ∷ Finish (Done (Exited 0)) ∷ []
unfolding lost_lock
does-kept = refl

-- the node goes away before it says that it took the lock back: nobody knows whether it was held
gone_early : stage_after_all false Asking (Line answer.Granted ∷ Ended (Exited 0) ∷ Gone ∷ []) ≡ Over Lost
gone_early = refl

-- not in time; no node; a node that answers something else; a command that cannot be run, after
-- which the lock is released
late : deeds false Asking (TimeIsUp ∷ []) ≡ Finish NotInTime ∷ []
late = refl

no_node : deeds false Asking (Gone ∷ Unserved ∷ []) ≡ ConnectAgain ∷ Finish NoService ∷ []
no_node = refl

-- if the node closed the connection since it had no room, the client connects again
no_room : deeds false Asking (Gone ∷ Line answer.Granted ∷ []) ≡ ConnectAgain ∷ Start ∷ []
no_room = refl

-- the guard is gone while the command runs: the command is ended once, whatever comes then, and
-- its status counts for nothing, even if the node says that the lock was held
unguarded : List ClientEvent
unguarded = Line answer.Granted ∷ GuardGone ∷ Line answer.Lost ∷ Ended (Killed 15) ∷ Line answer.Released ∷ []

does-unguarded : deeds false Asking unguarded ≡ Start ∷ EndCommand ∷ Wait ∷ Finish Lost ∷ Finish Lost ∷ []
unfolding unguarded
does-unguarded = refl

holds_not-unguarded : HeldThroughout (Killed 15) unguarded → ⊥
unfolding unguarded
holds_not-unguarded held = grind arith

-- once the command has ended the guard has nothing to hold, so its end does no harm
late_guard : stage_after_all false Asking (Line answer.Granted ∷ Ended (Exited 0) ∷ GuardGone ∷ Line answer.Released ∷ []) ≡ Over (Done (Exited 0))
late_guard = refl

-- Ctrl-C before the lock is granted; Ctrl-C while the command runs, which gets it too; then
-- SIGTERM
stopped : deeds false Asking (Signal Interrupt ∷ []) ≡ Finish (Stopped Interrupt) ∷ []
stopped = refl

status-stopped : outcome_status (Stopped Terminate) ≡ 143
status-stopped = refl

heeds : deeds false Asking (Line answer.Granted ∷ Signal Interrupt ∷ Signal Terminate ∷ Ended (Killed 15) ∷ [])
    ≡ Start ∷ Wait ∷ PassOn ∷ GiveBack ∷ []
heeds = refl

-- the command has no guard, and is not run
not_guarded : deeds false Asking (Line answer.Granted ∷ Ended NotGuarded ∷ Line answer.Released ∷ [])
    ≡ Start ∷ GiveBack ∷ Finish (Done NotGuarded) ∷ []
not_guarded = refl

status-not_guarded : outcome_status (Done NotGuarded) ≡ 125
status-not_guarded = refl

wrong_word : deeds false Asking (Line answer.Stranger ∷ []) ≡ Finish NoService ∷ []
wrong_word = refl

cannot_run : deeds false Asking (Line answer.Granted ∷ Ended CannotRun ∷ Line answer.Released ∷ []) ≡ Start ∷ GiveBack ∷ Finish (Done CannotRun) ∷ []
cannot_run = refl
