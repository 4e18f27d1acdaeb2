-- Small examples of what is done under the lock, how standard input is watched and which status
-- follows, with some that fail.
use Rattle.std.proofs.Common.{◌≡◌, ◌≢◌, [], ◌∷◌, map, Ok, Err, Some, None, true, false, codes, refl, arith, inl, inr}
use Rattle.std.specs.Prelude.{is_some}
use Rattle.std.specs.Fmt.{digits}
use Rattle.std.specs.declared.io.ErrorKind.TheVariants.{Interrupted, BrokenPipe}
use Rattle.lock_client.specs.declared.answer.Answer.TheVariants as answer
use Rattle.held_signals.specs.declared.signals.Signal.TheVariants.{Terminate}
use Rattle.lock_client.specs.declared.client.ClientEvent.TheVariants.{Line, Gone, Ended}
use Rattle.lock_client.specs.declared.client.ClientEvent.TheVariants as event
use Rattle.lock_client.specs.declared.guard.GuardEvent.TheVariants.{Said, Closed}
use Rattle.lock_client.specs.declared.outcome.CommandEnd.TheVariants.{Exited, Killed}
use Rattle.lock_client.specs.declared.outcome.Outcome.TheVariants.{Done, Lost, NotInTime}
use Rattle.lock_client.specs.declared.words.GuardWord.TheVariants as word
use Rattle.lock_command.specs.declared.notice.Notice.TheVariants.{Memory}
use Rattle.lock_command.specs.declared.session.Session.{Session}
use Rattle.lock_command.specs.declared.waiter.InputWatch.TheVariants.{Not, Waiting, Ready, Always}
use Rattle.lock_command.specs.Coming.{Comes, Stays}
use Rattle.lock_command.specs.declared.work.Work.TheVariants as work
use Rattle.lock_command.specs.Driving.{IsOutcomeOf}
use Rattle.lock_command.specs.GuardDriving.{IsOver, named}
use Rattle.lock_command.specs.Held.{held_status}
use Rattle.lock_command.specs.Marks.{EndsIn, IsClosed, IsMark}
use Rattle.lock_command.specs.Reading.{is_end, is_for_later}
use Rattle.lock_command.specs.Watching.{has_input, IsAwaited, IsTaken, IsWatched}
use Rattle.lock_command.specs.Working.{EndsSo, FamilyEndsSo, GoesOn, IsAsked, IsKilled, after_signal, is_family, is_running, signal_event}

-- a lost lock ends with the status that the user chose
ends-lost : held_status (Ok (record { outcome = Lost })) 75 ≡ 75
ends-lost = refl

ends_not-late : held_status (Ok (record { outcome = NotInTime })) 75 ≢ 75
ends_not-late = grind arith

-- within another lock
marks-inner : EndsIn (codes "2.5;") (codes "1.4;2.5;")
marks-inner = (codes "1.4;", refl)

-- nothing more comes; three bytes came
shows-end : is_end (Ok 0) ≡ true
shows-end = refl

shows_not-end : is_end (Ok 3) ≢ true
shows_not-end = grind arith

reads-input : has_input Ready ≡ true
reads-input = refl

reads_not-input : has_input Waiting ≢ true
reads_not-input = grind arith

-- ---- over all that happened

-- the node took the lock back after the command: its own status
is-outcome : IsOutcomeOf false (Some (Line answer.Granted ∷ Ended (Exited 3) ∷ Line answer.Released ∷ [])) (Done (Exited 3))
is-outcome = (Line answer.Granted ∷ Ended (Exited 3) ∷ Line answer.Released ∷ [], refl, refl)

-- the node went away: a client may not say that the command held the lock
outcome_not-gone : ¬ IsOutcomeOf false (Some (Line answer.Granted ∷ Ended (Exited 0) ∷ Gone ∷ [])) (Done (Exited 0))
outcome_not-gone (events, reported, over) = grind (arith, reported, over)

-- nor may one of which nobody knows what happened to it
outcome_not-unknown : ¬ IsOutcomeOf false None Lost
outcome_not-unknown (events, reported, over) = grind (arith, reported)

is-over : IsOver false (Some (Said word.Start ∷ Said word.Done ∷ []))
is-over = (Said word.Start ∷ Said word.Done ∷ [], refl, refl)

over_not-searching : ¬ IsOver false (Some (Said word.Start ∷ Closed ∷ []))
over_not-searching (events, reported, over) = grind (arith, reported, over)

names-last : named (word.Runs 71) (Some 70) ≡ Some 71
names-last = refl

names_not-other : named word.Done (Some 70) ≡ Some 70
names_not-other = refl

ends-unasked : held_status (Err Memory) 75 ≡ 125
ends-unasked = refl

-- ---- marks

is-mark : IsMark (codes "12.34;")
unfolding digits
is-mark = (codes "12", 34, refl)

closed-mark : IsClosed (codes "12.34;")
closed-mark = (codes "12.34", refl)

-- ---- reading

later : map is_for_later (Interrupted ∷ BrokenPipe ∷ []) ≡ true ∷ false ∷ []
later = refl

-- ---- watching

watched-always : IsWatched Always
watched-always = inr refl

watched_not-said : ¬ IsWatched Ready
watched_not-said (inl e) = grind (arith, e)
watched_not-said (inr e) = grind (arith, e)

taken-ready : IsTaken Ready Waiting
taken-ready = inl refl

-- what the system said counts only once
taken_not-ready : ¬ IsTaken Ready Ready
taken_not-ready taken = watched_not-said taken

taken_not-begun : ¬ IsTaken Not Waiting
taken_not-begun e = grind (arith, e)

awaited-ready : IsAwaited Waiting Ready
awaited-ready = inr refl

awaited_not-unasked : ¬ IsAwaited Not Ready
awaited_not-unasked e = grind (arith, e)

-- ---- what is done under the lock

module _ (P A B C : Type 0) where
  family-done : is_family {P = P} {A = A} {B = B} {C = C} (work.Family (Exited 3)) ≡ true
  family-done = refl

  family_not-input : is_family {P = P} {A = A} {B = B} {C = C} work.Input ≡ false
  family_not-input = refl

  running_not-input : is_running {P = P} {A = A} {B = B} {C = C} work.Input ≡ false
  running_not-input = refl

  -- standard input ends with 0, and only if it has something to read
  ends-input : EndsSo {P = P} {A = A} {B = B} {C = C} work.Input true (Some (Exited 0))
  ends-input = inr refl

  ends_not-unread : ¬ EndsSo {P = P} {A = A} {B = B} {C = C} work.Input false (Some (Exited 0))
  ends_not-unread e = grind (arith, e)

  ends_not-failed : ¬ EndsSo {P = P} {A = A} {B = B} {C = C} work.Input true (Some (Exited 1))
  ends_not-failed (inl e) = grind (arith, e)
  ends_not-failed (inr e) = grind (arith, e)

  -- what the command started must end before its end is reported
  ends_not-family : ¬ EndsSo {P = P} {A = A} {B = B} {C = C} (work.Family (Exited 3)) true (Some (Exited 3))
  ends_not-family e = grind (arith, e)

  family-ends : FamilyEndsSo {P = P} {A = A} {B = B} {C = C} (work.Family (Exited 3)) (Some (Exited 3))
  family-ends = inr refl

  family_not-other : ¬ FamilyEndsSo {P = P} {A = A} {B = B} {C = C} (work.Family (Exited 3)) (Some (Exited 0))
  family_not-other (inl e) = grind (arith, e)
  family_not-other (inr e) = grind (arith, e)

  -- an end is reported once
  goes-over : GoesOn {P = P} {A = A} {B = B} {C = C} (Some (Exited 3)) (work.Family (Exited 3)) work.None
  goes-over = refl

  goes_not-twice : ¬ GoesOn {P = P} {A = A} {B = B} {C = C} (Some (Exited 3)) (work.Family (Exited 3)) (work.Family (Exited 3))
  goes_not-twice e = grind (arith, e)

  goes_not-forgotten : ¬ GoesOn {P = P} {A = A} {B = B} {C = C} None (work.Family (Exited 3)) work.None
  goes_not-forgotten e = grind (arith, e)

  asks-input : IsAsked {P = P} {A = A} {B = B} {C = C} (Exited 0) work.Input (work.Done (Exited 0))
  asks-input = refl

  asks_not-waiting : ¬ IsAsked {P = P} {A = A} {B = B} {C = C} (Exited 0) work.Input work.Input
  asks_not-waiting e = grind (arith, e)

  kills-nobody : IsKilled {P = P} {A = A} {B = B} {C = C} work.Input work.Input
  kills-nobody = refl

  kills_not-input : ¬ IsKilled {P = P} {A = A} {B = B} {C = C} work.Input work.None
  kills_not-input e = grind (arith, e)

  -- SIGTERM is 15
  signal-input : signal_event {P = P} {A = A} {B = B} {C = C} work.Input Terminate ≡ Ended (Killed 15)
  signal-input = refl

  signal_not-family : signal_event {P = P} {A = A} {B = B} {C = C} (work.Family (Exited 3)) Terminate ≡ event.Signal Terminate
  signal_not-family = refl

  signal-over : after_signal {P = P} {A = A} {B = B} {C = C} work.Input ≡ work.None
  signal-over = refl

  signal_not-over : after_signal {P = P} {A = A} {B = B} {C = C} (work.Family (Exited 3)) ≢ work.None
  signal_not-over e = grind (arith, e)

-- ---- what comes

module _ {P A B C : Type 0} (s : Session P A B C) where
  comes-line : is_some s.desk ≡ true → Comes (Line answer.Granted) s s
  comes-line connected = connected

  -- without a connection no line comes
  comes_not-unconnected : s.desk ≡ None → ¬ Comes (Line answer.Granted) s s
  comes_not-unconnected none came = grind (arith, none, came)

  -- a time that is up is not due any more
  comes_not-again : s.course.due ≡ Some 5 → ¬ Comes event.TimeIsUp s s
  comes_not-again due came = let over = came.1 in grind (arith, due, over)

  stays-still : Stays s s
  stays-still = (refl, refl, refl, refl, refl, refl)

module _ {P A B C : Type 0} (s t : Session P A B C) where
  -- a guard that is gone does not stay
  stays_not-gone : is_some s.guard ≡ true → t.guard ≡ None → ¬ Stays s t
  stays_not-gone guarded gone stays = let same = stays.2 in grind (arith, guarded, gone, same)
