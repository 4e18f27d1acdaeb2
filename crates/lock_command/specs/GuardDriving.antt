-- What a guard does, from all that happened to it.
use Rattle.std.specs.Prelude.{◌≡◌, ℕ, Bool, List, Option, Some}
use Rattle.lock_client.specs.declared.guard.GuardEvent.{GuardEvent}
use Rattle.lock_client.specs.declared.guard.GuardStage.TheVariants.{Idle, Over}
use Rattle.lock_client.specs.declared.words.GuardWord.{GuardWord}
use Rattle.lock_client.specs.declared.words.GuardWord.TheVariants.{Runs}
use Rattle.lock_client.specs.Guards.{guard_after_all}

-- a guard to which exactly these things happened has released the lock
abbrev pub IsOver : Bool → Option (List GuardEvent) → Type 0
IsOver keeps reported =
    (events : List GuardEvent) × (reported ≡ Some events)
    × (guard_after_all keeps Idle events ≡ Over)

-- the command's process: the last that the client named
abbrev pub named : GuardWord → Option ℕ → Option ℕ
named (Runs process) before = Some process
named _ before = before
