-- Laws of what a node's process and `up` decide.
use Rattle.std.specs.Prelude.{◌≡◌, ◌≢◌, ◌<◌, ◌≤◌, ◌↔◌, ◌⊎◌, ℕ, ◌+◌, Bool, true, false, List, [], ◌∷◌, filter, length}
use Rattle.node_texts.specs.declared.lines.End.{End}
use Rattle.node_texts.specs.declared.lines.End.TheVariants.{Status}
use Rattle.node_keeping.specs.declared.sight.FileSight.TheVariants.{NotOwn}
use Rattle.node_keeping.specs.declared.saved.StopSight.TheVariants.{Absent}
use Rattle.node_keeping.specs.declared.saved.Sights.{Sights}
use Rattle.node_keeping.specs.declared.saved.Lost.{Lost}
use Rattle.node_keeping.specs.declared.saved.AfterSave.TheVariants.{Displaced, Stop, GoOn}
use Rattle.node_keeping.specs.declared.keeper.KeeperStage.{KeeperStage}
use Rattle.node_keeping.specs.declared.keeper.KeeperStage.TheVariants.{Starts, Runs, Closes, Left, Over}
use Rattle.node_keeping.specs.declared.keeper.Seen.{Seen}
use Rattle.node_keeping.specs.declared.keeper.Seen.TheVariants.{Ended, Urged}
use Rattle.node_keeping.specs.declared.keeper.KeeperDeed.{KeeperDeed}
use Rattle.node_keeping.specs.declared.keeper.KeeperDeed.TheVariants.{Rest, Start, SayAgain, SayGone, Kill}
use Rattle.node_keeping.specs.AfterSave.{after_save, lost_of}
use Rattle.node_keeping.specs.Steps.{stage_after, stage_after_all, deeds, asked_after, looks, is_failed, failures_now}

-- a node ends at once, whatever else it sees, exactly if it sees that its lock file is gone or
-- another's
abbrev pub EndsWhereDisplaced : Type 0
EndsWhereDisplaced = (sights : Sights) → (after_save sights ≡ Displaced) ↔ (sights.place ≡ NotOwn)

-- a node that runs on did not see its place lost, saw no stop file and was not asked to end; it
-- takes back just the names that it saw lead elsewhere
abbrev pub RunsOnInPlace : Type 0
RunsOnInPlace =
    (sights : Sights) (lost : Lost) → after_save sights ≡ GoOn lost
    → (sights.place ≢ NotOwn) × (sights.stop ≡ Absent) × (sights.is_asked ≡ false)
    × (lost ≡ lost_of sights)

-- a node ends without a fault because of its stop file or because it is asked to, and for no other
-- reason
abbrev pub StopsWhenAsked : Type 0
StopsWhenAsked =
    (sights : Sights) → after_save sights ≡ Stop
    → (sights.stop ≡ Absent) → sights.is_asked ≡ true

abbrev pub is_start : KeeperDeed → Bool
is_start Start = true
is_start _ = false

abbrev pub is_kill : KeeperDeed → Bool
is_kill Kill = true
is_kill _ = false

-- once `up` is asked to end, no node is started, whatever is seen
abbrev pub NobodyStartsAfterTheEnd : Type 0
NobodyStartsAfterTheEnd =
    (failures : ℕ) (stage : KeeperStage) (seen : List Seen)
    → filter is_start (deeds failures (asked_after stage) seen) ≡ []

-- a node that ran and ended is started again after 10 looks, unless it has now failed three times in
-- a row at its start; so is one for which there was no process
abbrev pub IsStartedAgain : Type 0
IsStartedAgain =
    (failures age : ℕ) (stage : KeeperStage) (end : End)
    → (stage ≡ Starts) ⊎ ((stage ≡ Runs age) × (failures_now end age failures < 3))
    → deeds failures stage (Ended end ∷ looks 11)
    ≡ SayAgain end ∷ Rest ∷ Rest ∷ Rest ∷ Rest ∷ Rest ∷ Rest ∷ Rest ∷ Rest ∷ Rest ∷ Rest
    ∷ Start ∷ []

-- a node is left alone only if it ended with a status other than 0 soon after its start, and failed
-- there twice before
abbrev pub IsLeftAfterThreeFailures : Type 0
IsLeftAfterThreeFailures =
    (failures : ℕ) (stage : KeeperStage) (seen : Seen) → stage ≢ Left
    → stage_after seen failures stage ≡ Left
    → (status age : ℕ) × (seen ≡ Ended (Status status)) × (stage ≡ Runs age)
    × (is_failed (Status status) age ≡ true) × (2 ≤ failures)

-- whatever is seen, a node is killed at most once
abbrev pub IsKilledOnce : Type 0
IsKilledOnce =
    (failures : ℕ) (stage : KeeperStage) (seen : List Seen)
    → length (filter is_kill (deeds failures stage seen)) ≤ 1

-- a node that must end and does not is killed by the look after the ones that it was given, and is
-- then over
abbrev pub IsKilledInTime : Type 0
IsKilledInTime =
    (failures n : ℕ) →
    (stage_after_all failures (Closes n) (looks (n + 1)) ≡ Over)
    × (length (filter is_kill (deeds failures (Closes n) (looks (n + 1)))) ≡ 1)

-- a node that must end and ends is named, with how it ended
abbrev pub IsNamedAtItsEnd : Type 0
IsNamedAtItsEnd =
    (failures n : ℕ) (end : End)
    → deeds failures (Closes n) (Ended end ∷ []) ≡ SayGone end ∷ []

-- once `up` is asked again, a node that must end is killed at once, and is then over
abbrev pub IsKilledAtOnce : Type 0
IsKilledAtOnce =
    (failures n : ℕ) →
    (deeds failures (Closes n) (Urged ∷ []) ≡ Kill ∷ [])
    × (stage_after Urged failures (Closes n) ≡ Over)
