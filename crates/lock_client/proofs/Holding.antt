-- A command's own status is returned exactly if the lock was held all the while, and its release
-- then confirmed.
use Rattle.std.proofs.Common.{◌≡◌, Bool, false, List, [], ◌∷◌, arith, refl, inl, inr}
use Rattle.lock_client.specs.declared.answer.Answer.{Answer}
use Rattle.lock_client.specs.declared.answer.Answer.TheVariants as answer
use Rattle.lock_client.specs.declared.outcome.CommandEnd.{CommandEnd}
use Rattle.lock_client.specs.declared.outcome.Outcome.{Outcome}
use Rattle.lock_client.specs.declared.outcome.Outcome.TheVariants.{Done, Lost, NotInTime, NoService, Stopped}
use Rattle.held_signals.specs.declared.signals.Signal as signals
use Rattle.lock_client.specs.declared.client.ClientStage.TheVariants.{Asking, Holding, Losing, Returning, Over}
use Rattle.lock_client.specs.declared.client.ClientEvent.{ClientEvent}
use Rattle.lock_client.specs.declared.client.ClientEvent.TheVariants.{Line, Gone, Unserved, TimeIsUp, Ended, GuardGone, Signal}
use Rattle.lock_client.specs.Steps.{stage_after_all, stage_after}
use Rattle.lock_client.specs.Laws.{IsReleasedNext, IsHeldToTheEnd, HeldThroughout}

-- what is over stays so
over : (outcome : Outcome) (events : List ClientEvent) → stage_after_all false (Over outcome) events ≡ Over outcome
over outcome [] = refl
over outcome (e ∷ es) = over outcome es

-- a client that is over without the lock is never done
lost : (end : CommandEnd) (events : List ClientEvent) → stage_after_all false (Over Lost) events ≡ Over (Done end) → ⊥
lost end events same = let no : Over Lost ≡ Over (Done end) = rw (over Lost events) at same in grind arith

refused : (end : CommandEnd) (events : List ClientEvent) → stage_after_all false (Over NoService) events ≡ Over (Done end) → ⊥
refused end events same = let no : Over NoService ≡ Over (Done end) = rw (over NoService events) at same in grind arith

late : (end : CommandEnd) (events : List ClientEvent) → stage_after_all false (Over NotInTime) events ≡ Over (Done end) → ⊥
late end events same = let no : Over NotInTime ≡ Over (Done end) = rw (over NotInTime events) at same in grind arith

stopped : (end : CommandEnd) (s : signals.Signal) (events : List ClientEvent) → stage_after_all false (Over (Stopped s)) events ≡ Over (Done end) → ⊥
stopped end s events same = let no : Over (Stopped s) ≡ Over (Done end) = rw (over (Stopped s) events) at same in grind arith

never : (end : CommandEnd) (events : List ClientEvent) → stage_after_all false Losing events ≡ Over (Done end) → ⊥
never end [] same = grind arith
never end (Line a ∷ es) same = never end es same
never end (Gone ∷ es) same = never end es same
never end (Unserved ∷ es) same = never end es same
never end (TimeIsUp ∷ es) same = never end es same
never end (GuardGone ∷ es) same = never end es same
never end (Signal s ∷ es) same = never end es same
never end (Ended other ∷ es) same = lost end es same

-- after the end of its command a client is done only if the node said released
released : (was end : CommandEnd) (events : List ClientEvent) → stage_after_all false (Returning was) events ≡ Over (Done end)
    → (was ≡ end) × IsReleasedNext events
released was end [] same = elim (lost end [] (grind arith)) [ ]
released was end (Line answer.Released ∷ es) same =
    let now : Over (Done was) ≡ Over (Done end) = rw (over (Done was) es) at same in (grind arith, inl refl)
released was end (Ended again ∷ es) same = let rest : _ = released was end es same in (rest.0, inr (record {}, rest.1))
released was end (GuardGone ∷ es) same = let rest : _ = released was end es same in (rest.0, inr (record {}, rest.1))
released was end (Signal s ∷ es) same = let rest : _ = released was end es same in (rest.0, inr (record {}, rest.1))
released was end (Line answer.Granted ∷ es) same = elim (lost end es same) [ ]
released was end (Line answer.Lost ∷ es) same = elim (lost end es same) [ ]
released was end (Line answer.Full ∷ es) same = elim (lost end es same) [ ]
released was end (Line answer.Twice ∷ es) same = elim (lost end es same) [ ]
released was end (Line answer.Stranger ∷ es) same = elim (lost end es same) [ ]
released was end (Line answer.Unknown ∷ es) same = elim (lost end es same) [ ]
released was end (Line answer.Other ∷ es) same = elim (lost end es same) [ ]
released was end (Gone ∷ es) same = elim (lost end es same) [ ]
released was end (Unserved ∷ es) same = elim (lost end es same) [ ]
released was end (TimeIsUp ∷ es) same = elim (lost end es same) [ ]

-- a client that holds the lock is done only if nothing came before its command ended
held : (end : CommandEnd) (events : List ClientEvent) → stage_after_all false Holding events ≡ Over (Done end) → IsHeldToTheEnd end events
held end [] same = grind arith
held end (Line a ∷ es) same = elim (never end es same) [ ]
held end (Gone ∷ es) same = elim (never end es same) [ ]
held end (Unserved ∷ es) same = elim (never end es same) [ ]
held end (GuardGone ∷ es) same = elim (never end es same) [ ]
held end (TimeIsUp ∷ es) same = inr (inl refl, held end es same)
held end (Signal s ∷ es) same = inr (inr (s, refl), held end es same)
held end (Ended was ∷ es) same = let rest : _ = released was end es same in inl (rw rest.0 refl, rest.1)

-- a client is done only if the lock was held throughout
pub throughout : (end : CommandEnd) (events : List ClientEvent) → stage_after_all false Asking events ≡ Over (Done end) → HeldThroughout end events
throughout end [] same = grind arith
throughout end (Line answer.Granted ∷ es) same = inl (refl, held end es same)
throughout end (Line answer.Full ∷ es) same = inr (record {}, throughout end es same)
throughout end (Gone ∷ es) same = inr (record {}, throughout end es same)
throughout end (Ended other ∷ es) same = inr (record {}, throughout end es same)
throughout end (GuardGone ∷ es) same = inr (record {}, throughout end es same)
throughout end (Line answer.Lost ∷ es) same = elim (refused end es same) [ ]
throughout end (Line answer.Released ∷ es) same = elim (refused end es same) [ ]
throughout end (Line answer.Twice ∷ es) same = elim (refused end es same) [ ]
throughout end (Line answer.Stranger ∷ es) same = elim (refused end es same) [ ]
throughout end (Line answer.Unknown ∷ es) same = elim (refused end es same) [ ]
throughout end (Line answer.Other ∷ es) same = elim (refused end es same) [ ]
throughout end (Unserved ∷ es) same = elim (refused end es same) [ ]
throughout end (TimeIsUp ∷ es) same = elim (late end es same) [ ]
throughout end (Signal s ∷ es) same = elim (stopped end s es same) [ ]

-- and it did
is-released : (end : CommandEnd) (events : List ClientEvent) → IsReleasedNext events → stage_after_all false (Returning end) events ≡ Over (Done end)
is-released end [] none = elim none [ ]
is-released end (e ∷ es) (inl same) = rw same (over (Done end) es)
is-released end (Ended again ∷ es) (inr (harmless, next)) = is-released end es next
is-released end (GuardGone ∷ es) (inr (harmless, next)) = is-released end es next
is-released end (Signal s ∷ es) (inr (harmless, next)) = is-released end es next
is-released end (Line any ∷ es) (inr (none, next)) = elim none [ ]
is-released end (Gone ∷ es) (inr (none, next)) = elim none [ ]
is-released end (Unserved ∷ es) (inr (none, next)) = elim none [ ]
is-released end (TimeIsUp ∷ es) (inr (none, next)) = elim none [ ]

is-held : (end : CommandEnd) (events : List ClientEvent) → IsHeldToTheEnd end events → stage_after_all false Holding events ≡ Over (Done end)
is-held end [] none = elim none [ ]
is-held end (e ∷ es) (inl (same, next)) = rw same (is-released end es next)
is-held end (e ∷ es) (inr (inl same, next)) = rw same (is-held end es next)
is-held end (e ∷ es) (inr (inr (s, same), next)) = rw same (is-held end es next)

pub is_done : (end : CommandEnd) (events : List ClientEvent) → HeldThroughout end events → stage_after_all false Asking events ≡ Over (Done end)
is_done end [] none = elim none [ ]
is_done end (e ∷ es) (inl (same, next)) = rw same (is-held end es next)
is_done end (Line answer.Full ∷ es) (inr (waits, next)) = is_done end es next
is_done end (Gone ∷ es) (inr (waits, next)) = is_done end es next
is_done end (Ended other ∷ es) (inr (waits, next)) = is_done end es next
is_done end (GuardGone ∷ es) (inr (waits, next)) = is_done end es next
is_done end (Line answer.Granted ∷ es) (inr (none, next)) = elim none [ ]
is_done end (Line answer.Lost ∷ es) (inr (none, next)) = elim none [ ]
is_done end (Line answer.Released ∷ es) (inr (none, next)) = elim none [ ]
is_done end (Line answer.Twice ∷ es) (inr (none, next)) = elim none [ ]
is_done end (Line answer.Stranger ∷ es) (inr (none, next)) = elim none [ ]
is_done end (Line answer.Unknown ∷ es) (inr (none, next)) = elim none [ ]
is_done end (Line answer.Other ∷ es) (inr (none, next)) = elim none [ ]
is_done end (Unserved ∷ es) (inr (none, next)) = elim none [ ]
is_done end (TimeIsUp ∷ es) (inr (none, next)) = elim none [ ]
is_done end (Signal s ∷ es) (inr (none, next)) = elim none [ ]

-- a client that gave the lock back is over with the node's next word
pub heard : (keeps : Bool) (end : CommandEnd) (any : Answer) → (outcome : Outcome) × (stage_after keeps (Line any) (Returning end) ≡ Over outcome)
heard keeps end answer.Granted = (_, refl)
heard keeps end answer.Lost = (_, refl)
heard keeps end answer.Released = (_, refl)
heard keeps end answer.Full = (_, refl)
heard keeps end answer.Twice = (_, refl)
heard keeps end answer.Stranger = (_, refl)
heard keeps end answer.Unknown = (_, refl)
heard keeps end answer.Other = (_, refl)
