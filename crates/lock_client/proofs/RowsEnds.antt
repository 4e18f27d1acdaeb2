-- Small examples of how a command ended, of the status that follows, and of lines; and some that fail.
use Rattle.std.proofs.Common.{◌≡◌, ℕ, false, List, [], ◌∷◌, map, None, Some, refl, codes, arith}
use Rattle.std.specs.Process.{status_bits}
use Rattle.std.specs.declared.process.status.ExitStatus.{ExitStatus}
use Rattle.held_signals.specs.declared.signals.Signal.TheVariants.{Terminate}
use Rattle.lock_client.specs.declared.answer.Answer.TheVariants as answer
use Rattle.lock_client.specs.declared.guard.GuardEvent.TheVariants.{Said, Closed, GraceIsOver}
use Rattle.lock_client.specs.declared.guard.GuardStage.TheVariants as guard
use Rattle.lock_client.specs.declared.client.ClientEvent.TheVariants.{Line, Gone, TimeIsUp}
use Rattle.lock_client.specs.declared.client.ClientDeed.TheVariants.{Wait, AskAgain, ConnectAgain}
use Rattle.lock_client.specs.declared.outcome.CommandEnd.TheVariants.{Exited, Killed, CannotRun}
use Rattle.lock_client.specs.declared.outcome.Outcome.TheVariants.{Done, Lost, NotInTime, NoService, Stopped}
use Rattle.lock_client.specs.declared.words.GuardWord.TheVariants as word
use Rattle.lock_client.specs.Courses.{after_all, deeds_of}
use Rattle.lock_client.specs.Ends.{command_end}
use Rattle.lock_client.specs.Guards.{guard_after}
use Rattle.lock_client.specs.Lines.{first_known, known_answers}
use Rattle.lock_client.specs.Outcome.{chosen_status}
use Rattle.lock_client.specs.Steps.{asking_deed}
use Rattle.lock_client.specs.Words.{runs_of, runs_word}

-- by POSIX: 0x300 is the exit status 3, 0xf signal 15, 0x8b signal 11 with its core dumped, and 0x137f a stop, which is no end
module _ (s : ExitStatus) where
  end-exited : status_bits s ≡ 768 → command_end s ≡ Exited 3
  end-exited bits = rw bits refl

  end-well : status_bits s ≡ 0 → command_end s ≡ Exited 0
  end-well bits = rw bits refl

  end-killed : status_bits s ≡ 15 → command_end s ≡ Killed 15
  end-killed bits = rw bits refl

  end-dumped : status_bits s ≡ 139 → command_end s ≡ Killed 11
  end-dumped bits = rw bits refl

  end-unknown : status_bits s ≡ 4991 → command_end s ≡ Exited 125
  end-unknown bits = rw bits refl

  -- a command that signal 1 ended did not end by itself with status 1
  end_not-exited : status_bits s ≡ 1 → ¬ (command_end s ≡ Exited 1)
  end_not-exited bits is = let e : Killed 1 ≡ Exited 1 = rw bits at is in absurd cc

-- only a lost lock has the status that the user chose
chosen : map (chosen_status 7) (Lost ∷ Done (Exited 3) ∷ Done CannotRun ∷ NotInTime ∷ NoService ∷ Stopped Terminate ∷ [])
    ≡ 7 ∷ 3 ∷ 126 ∷ 124 ∷ 125 ∷ 143 ∷ []
chosen = refl

chosen_not-usual : ¬ (chosen_status 7 Lost ≡ 122)
chosen_not-usual e = grind (arith, e)

-- what a client that asks does of each word and event
asks : map asking_deed (Line answer.Full ∷ Gone ∷ Line answer.Twice ∷ TimeIsUp ∷ []) ≡ AskAgain ∷ ConnectAgain ∷ Wait ∷ Wait ∷ []
asks = refl

asks_not-again : ¬ (asking_deed Gone ≡ AskAgain)
asks_not-again e = absurd cc

-- the guard hears of a process by its number, and of no other line
runs : map runs_word (codes "runs 4711" ∷ codes "runs" ∷ codes "run 4711" ∷ codes "runs 47x" ∷ codes "runs 4194305" ∷ [])
    ≡ word.Runs 4711 ∷ word.Other ∷ word.Other ∷ word.Other ∷ word.Other ∷ []
runs = refl

runs-of : map runs_of (Some 4711 ∷ None ∷ []) ≡ word.Runs 4711 ∷ word.Other ∷ []
runs-of = refl

runs_not-other : ¬ (runs_word (codes "runs 4711") ≡ word.Runs 4712)
runs_not-other e = grind (arith, e)

-- a line is the first answer that is spelled so, if there is one among them
first-known : first_known (codes "full") known_answers ≡ answer.Full
first-known = refl

first_not-among : first_known (codes "full") (answer.Lost ∷ answer.Granted ∷ []) ≡ answer.Other
first_not-among = refl

-- the guard, by its stage: once its client is gone it looks for the command, and kills what was asked in vain
guards : (guard_after false (Said word.Start) guard.Idle ≡ guard.Watching) × (guard_after false Closed guard.Watching ≡ guard.Searching 0)
    × (guard_after false GraceIsOver (guard.Asked 2) ≡ guard.Killed 0)
guards = (refl, refl, refl)

-- it kills nobody that it has not asked, and does not begin again
guards_not : (guard_after false GraceIsOver (guard.Searching 2) ≡ guard.Searching 2) × (guard_after false (Said word.Start) guard.Over ≡ guard.Over)
guards_not = (refl, refl)

-- a machine that keeps its events, the last one first
abbrev keeps : ℕ → List ℕ → List ℕ
keeps event stage = event ∷ stage

abbrev shows : ℕ → List ℕ → List ℕ → List ℕ
shows event before after = before

course : after_all keeps [] (1 ∷ 2 ∷ 3 ∷ []) ≡ 3 ∷ 2 ∷ 1 ∷ []
course = refl

course_not-turned : ¬ (after_all keeps [] (1 ∷ 2 ∷ []) ≡ 1 ∷ 2 ∷ [])
course_not-turned e = grind (arith, e)

course-deeds : deeds_of keeps shows [] (1 ∷ 2 ∷ 3 ∷ []) ≡ [] ∷ (1 ∷ []) ∷ (2 ∷ 1 ∷ []) ∷ []
course-deeds = refl

deeds_not-none : deeds_of keeps shows (7 ∷ []) [] ≡ []
deeds_not-none = refl
