-- What `up` does with a node that it keeps running.
use Rattle.std.specs.Prelude.{ℕ, zero, suc, ◌+◌, ◌-◌, Bool, true, false, ◌&&◌, not, ◌==◌, nat_lt, if◌then◌else◌, List, [], ◌∷◌}
use Rattle.node_texts.specs.declared.lines.End.{End}
use Rattle.node_texts.specs.declared.lines.End.TheVariants.{Status}
use Rattle.node_keeping.specs.declared.keeper.KeeperStage.{KeeperStage}
use Rattle.node_keeping.specs.declared.keeper.KeeperStage.TheVariants.{Waits, Starts, Runs, Closes, Left, Over}
use Rattle.node_keeping.specs.declared.keeper.Seen.{Seen}
use Rattle.node_keeping.specs.declared.keeper.Seen.TheVariants.{Nothing, Started, Ended, Asked, Urged}
use Rattle.node_keeping.specs.declared.keeper.KeeperDeed.{KeeperDeed}
use Rattle.node_keeping.specs.declared.keeper.KeeperDeed.TheVariants.{Rest, Start, SayAgain, SayLeft, SayGone, CloseInput, Kill}
use Rattle.node_keeping.specs.declared.keeper.Keeper.{Keeper}

-- a node that is started at the first look
abbrev pub new_keeper : Keeper
new_keeper = record { stage = Waits 0; failures = 0 }

-- a node is kept until it is left alone or over
abbrev pub is_kept : KeeperStage → Bool
is_kept Left = false
is_kept Over = false
is_kept _ = true

-- a node failed at its start if it ended with a status of its own that is not 0, and was looked at
-- fewer than 100 times; an end by a signal has no status of its own
abbrev pub is_failed : End → ℕ → Bool
is_failed (Status status) looks = not (status == 0) && nat_lt looks 100
is_failed _ looks = false

-- looks count a node's time up while it runs, and down until it is started or killed
abbrev pub looked_at : KeeperStage → KeeperStage
looked_at (Waits looks) = if looks == 0 then Starts else Waits (looks - 1)
looked_at (Runs looks) = Runs (if nat_lt looks 4294967295 then looks + 1 else 4294967295)
looked_at (Closes looks) = if looks == 0 then Over else Closes (looks - 1)
looked_at stage = stage

abbrev pub looked_deed : KeeperStage → KeeperDeed
looked_deed (Waits looks) = if looks == 0 then Start else Rest
looked_deed (Closes looks) = if looks == 0 then Kill else Rest
looked_deed _ = Rest

-- how often in a row a node has failed at its start, once it ended like this
abbrev pub failures_now : End → ℕ → ℕ → ℕ
failures_now end looks failures =
    if is_failed end looks then (if nat_lt failures 255 then failures + 1 else 255) else 0

-- a node that ended is started again after 10 looks, unless it failed three times in a row
abbrev pub ended_after : End → ℕ → KeeperStage → KeeperStage
ended_after end failures Starts = Waits 10
ended_after end failures (Runs looks) =
    if nat_lt (failures_now end looks failures) 3 then Waits 10 else Left
ended_after end failures (Closes looks) = Over
ended_after end failures stage = stage

abbrev pub ended_deed : End → ℕ → KeeperStage → KeeperDeed
ended_deed end failures Starts = SayAgain end
ended_deed end failures (Runs looks) =
    if nat_lt (failures_now end looks failures) 3 then SayAgain end else SayLeft end
ended_deed end failures (Closes looks) = SayGone end
ended_deed end failures _ = Rest

-- once `up` is asked to end, what runs must end within 500 looks, and nothing is started
abbrev pub asked_after : KeeperStage → KeeperStage
asked_after (Waits looks) = Over
asked_after Starts = Closes 500
asked_after (Runs looks) = Closes 500
asked_after (Closes looks) = Closes looks
asked_after Left = Over
asked_after Over = Over

abbrev pub asked_deed : KeeperStage → KeeperDeed
asked_deed Starts = CloseInput
asked_deed (Runs looks) = CloseInput
asked_deed _ = Rest

-- once it is asked again, what is there is killed
abbrev pub urged_deed : KeeperStage → KeeperDeed
urged_deed Starts = Kill
urged_deed (Runs looks) = Kill
urged_deed (Closes looks) = Kill
urged_deed _ = Rest

-- a node that was started runs
abbrev pub started_after : KeeperStage → KeeperStage
started_after Starts = Runs 0
started_after stage = stage

-- the stage after what was seen
abbrev pub stage_after : Seen → ℕ → KeeperStage → KeeperStage
stage_after Nothing failures stage = looked_at stage
stage_after Started failures stage = started_after stage
stage_after (Ended end) failures stage = ended_after end failures stage
stage_after Asked failures stage = asked_after stage
stage_after Urged failures stage = Over

-- how often in a row a node has failed, after what was seen; a start for which there was no process
-- neither counts nor ends the row
abbrev pub failures_after : Seen → KeeperStage → ℕ → ℕ
failures_after (Ended end) (Runs looks) failures = failures_now end looks failures
failures_after _ _ failures = failures

-- what to do
abbrev pub deed_at : Seen → ℕ → KeeperStage → KeeperDeed
deed_at Nothing failures stage = looked_deed stage
deed_at Started failures stage = Rest
deed_at (Ended end) failures stage = ended_deed end failures stage
deed_at Asked failures stage = asked_deed stage
deed_at Urged failures stage = urged_deed stage

-- the stage after all that was seen, one after the other
abbrev pub stage_after_all : ℕ → KeeperStage → List Seen → KeeperStage
stage_after_all failures stage [] = stage
stage_after_all failures stage (seen ∷ rest) =
    stage_after_all (failures_after seen stage failures) (stage_after seen failures stage) rest

-- the deeds of these events, one after the other
abbrev pub deeds : ℕ → KeeperStage → List Seen → List KeeperDeed
deeds failures stage [] = []
deeds failures stage (seen ∷ rest) =
    deed_at seen failures stage
    ∷ deeds (failures_after seen stage failures) (stage_after seen failures stage) rest

-- this many looks that show nothing new
abbrev pub looks : ℕ → List Seen
looks zero = []
looks (suc n) = Nothing ∷ looks n
