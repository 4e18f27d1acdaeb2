-- Laws of the guard of a command: what users of the lock may rely on if the client is killed.
use Rattle.std.specs.Prelude.{◌≡◌, ◌⊎◌, ⊤, ℕ, ◌+◌, ◌≤◌, Bool, true, false, if◌then◌else◌, List, [], ◌∷◌, ◌++◌, filter, length}
use Rattle.std.specs.List.{AllByRecursion}
use Rattle.lock_client.specs.declared.guard.GuardStage.TheVariants.{Idle, Watching, Searching, Over}
use Rattle.lock_client.specs.declared.guard.GuardSight.{GuardSight}
use Rattle.lock_client.specs.declared.guard.GuardEvent.{GuardEvent}
use Rattle.lock_client.specs.declared.guard.GuardEvent.TheVariants.{Said, Closed, Looked}
use Rattle.lock_client.specs.declared.guard.GuardDeed.{GuardDeed}
use Rattle.lock_client.specs.declared.guard.GuardDeed.TheVariants.{Ask, Kill}
use Rattle.lock_client.specs.declared.words.GuardWord.TheVariants as word
use Rattle.lock_client.specs.Guards.{guard_after, guard_after_all, guard_deed, guard_deeds}

-- how many looks in a row have found nobody after these events, if `quiet` had before them
abbrev pub quiet_looks : ℕ → List GuardEvent → ℕ
quiet_looks quiet [] = quiet
quiet_looks quiet (Looked sight ∷ es) = quiet_looks (if sight.somebody then 0 else quiet + 1) es
quiet_looks quiet (e ∷ es) = quiet_looks quiet es

-- the client did not announce a command
abbrev pub IsUnannounced : List GuardEvent → Type 0
IsUnannounced events = AllByRecursion (λ e. e ≡ Said word.Start → ⊥) events

-- A guard releases the lock with its next event only if the client says that it is done, or is
-- gone and never announced a command, or four looks in a row found nobody of the command.
abbrev pub GivesBackRightly : Type 0
GivesBackRightly =
    (keeps : Bool) (events : List GuardEvent) (next : GuardEvent)
    → (guard_after_all keeps Idle events ≡ Over → ⊥)
    → guard_after keeps next (guard_after_all keeps Idle events) ≡ Over
    → (next ≡ Said word.Done) ⊎ ((next ≡ Closed) × IsUnannounced events)
    ⊎ (4 ≤ quiet_looks 0 (events ++ next ∷ []))

-- the command is asked to end
abbrev pub is_asking : GuardDeed → Bool
is_asking Ask = true
is_asking _ = false

-- whatever happens, it asks the command to end at most once
abbrev pub AsksAtMostOnce : Type 0
AsksAtMostOnce =
    (keeps : Bool) (events : List GuardEvent)
    → length (filter is_asking (guard_deeds keeps Idle events)) ≤ 1

-- no deed kills before one asks
abbrev pub AsksFirst : List GuardDeed → Type 0
AsksFirst [] = ⊤
AsksFirst (Ask ∷ deeds) = ⊤
AsksFirst (Kill ∷ deeds) = ⊥
AsksFirst (_ ∷ deeds) = AsksFirst deeds

abbrev pub KillsAfterAsking : Type 0
KillsAfterAsking =
    (keeps : Bool) (events : List GuardEvent) → AsksFirst (guard_deeds keeps Idle events)

-- a command that may run on is never asked to end; if a look of a guard that searches shows that a
-- signal came to the whole group, the command is not asked to end after that
pub record LeavesAlone : Type 0 where
  pub keeps : (events : List GuardEvent)
      → filter is_asking (guard_deeds true Idle events) ≡ []
  pub signalled : (quiet : ℕ) (sight : GuardSight) (events : List GuardEvent) → sight.signalled ≡ true
      → filter is_asking (guard_deeds false (Searching quiet) (Looked sight ∷ events)) ≡ []

-- a guard ends when the client that announced a command is done, or is gone and announced none; if
-- a client that announced one is gone, the guard looks for the command, and asks it to end once
-- found, unless it may run on or a signal came to the whole group
pub record GuardEnds : Type 0 where
  pub done : (keeps : Bool) → guard_after keeps (Said word.Done) Watching ≡ Over
  pub unused : (keeps : Bool) → guard_after keeps Closed Idle ≡ Over
  pub looks : (keeps : Bool) → guard_after keeps Closed Watching ≡ Searching 0
  pub asks : (quiet : ℕ) (sight : GuardSight) → sight.somebody ≡ true → sight.signalled ≡ false
      → guard_deed (Searching quiet) (guard_after false (Looked sight) (Searching quiet)) ≡ Ask
