-- Small examples of the parts of what a node's process and `up` decide, and ones that fail.
use Rattle.std.proofs.Common.{◌≡◌, true, false, [], ◌∷◌, map, refl}
use Rattle.node_texts.specs.declared.lines.End.TheVariants.{Status, Signal}
use Rattle.node_keeping.specs.declared.sight.FileSight.TheVariants.{Own, NotOwn, Unseen}
use Rattle.node_keeping.specs.declared.saved.StopSight.TheVariants.{Absent, Removed}
use Rattle.node_keeping.specs.declared.saved.AfterSave.TheVariants.{Stop}
use Rattle.node_keeping.specs.declared.keeper.KeeperStage.TheVariants.{Waits, Starts, Runs, Closes, Left, Over}
use Rattle.node_keeping.specs.declared.keeper.Seen.TheVariants.{Nothing, Started, Ended, Asked, Urged}
use Rattle.node_keeping.specs.declared.keeper.KeeperDeed.TheVariants.{Rest, Start, SayAgain, SayLeft, SayGone, CloseInput, Kill}
use Rattle.node_keeping.specs.AfterSave.{looks_for_stop, is_lost, lost_of, in_place}
use Rattle.node_keeping.specs.Laws.{is_start, is_kill}
use Rattle.node_keeping.specs.Steps.{deed_at, new_keeper, stage_after, is_kept, is_failed, looked_at, looked_deed, failures_now, ended_after, ended_deed, asked_after, asked_deed, urged_deed, started_after, failures_after, looks}

-- a stop file in a folder that is another's is not this node's
stop-looks : map looks_for_stop (Unseen ∷ NotOwn ∷ []) ≡ true ∷ false ∷ []
stop-looks = refl

lost : map is_lost (NotOwn ∷ Unseen ∷ []) ≡ true ∷ false ∷ []
lost = refl

-- the names that lead elsewhere are lost, and those of which nothing is known are not
lost-names : lost_of (record { place = Own; stop = Absent; is_asked = false; links = NotOwn; clients = Unseen; looks = NotOwn })
    ≡ record { links = true; clients = false; looks = true }
lost-names = refl

lost_not-place : lost_of (record { place = NotOwn; stop = Absent; is_asked = false; links = Own; clients = NotOwn; looks = Own })
    ≡ record { links = false; clients = true; looks = false }
lost_not-place = refl

stops-in-place : in_place (record { place = Own; stop = Removed; is_asked = false; links = Own; clients = Own; looks = Own }) Removed ≡ Stop
stops-in-place = refl

-- ---- a keeper

begins : new_keeper.stage ≡ Waits 0
begins = refl

kept : map is_kept (Closes 3 ∷ Left ∷ []) ≡ true ∷ false ∷ []
kept = refl

-- a failing start: a status of its own that is not 0, within 100 looks
failed : map (λ end. is_failed end 99) (Status 1 ∷ Status 0 ∷ Signal 9 ∷ []) ≡ true ∷ false ∷ false ∷ []
failed = refl

failed_not-late : is_failed (Status 1) 100 ≡ false
failed_not-late = refl

counts-failures : map (failures_now (Status 1) 5) (1 ∷ 255 ∷ []) ≡ 2 ∷ 255 ∷ []
counts-failures = refl

counts_not-on : failures_now (Signal 9) 5 2 ≡ 0
counts_not-on = refl

failures : map (λ seen. failures_after seen (Runs 5) 1) (Nothing ∷ Ended (Status 1) ∷ []) ≡ 1 ∷ 2 ∷ []
failures = refl

-- looks count down to a start or a kill, and up while a node runs
looked : map looked_at (Waits 2 ∷ Waits 0 ∷ Runs 7 ∷ Runs 4294967295 ∷ Closes 0 ∷ []) ≡ Waits 1 ∷ Starts ∷ Runs 8 ∷ Runs 4294967295 ∷ Over ∷ []
looked = refl

looked-does : map looked_deed (Waits 0 ∷ Waits 1 ∷ Closes 0 ∷ Closes 1 ∷ []) ≡ Start ∷ Rest ∷ Kill ∷ Rest ∷ []
looked-does = refl

-- the third failure in a row leaves a node alone
ended : map (λ failures. ended_after (Status 1) failures (Runs 5)) (1 ∷ 2 ∷ []) ≡ Waits 10 ∷ Left ∷ []
ended = refl

ended-over : ended_after (Status 0) 0 (Closes 5) ≡ Over
ended-over = refl

says-again : ended_deed (Status 1) 1 (Runs 5) ≡ SayAgain (Status 1)
says-again = refl

says : map (ended_deed (Status 1) 2) (Runs 5 ∷ Closes 5 ∷ Over ∷ []) ≡ SayLeft (Status 1) ∷ SayGone (Status 1) ∷ Rest ∷ []
says = refl

-- once asked to end `up` closes what runs, and starts nobody
asked : map asked_after (Runs 5 ∷ Waits 5 ∷ Closes 3 ∷ []) ≡ Closes 500 ∷ Over ∷ Closes 3 ∷ []
asked = refl

closes : map asked_deed (Runs 5 ∷ Waits 5 ∷ []) ≡ CloseInput ∷ Rest ∷ []
closes = refl

-- asked again it kills what is there
urged : map urged_deed (Closes 400 ∷ Waits 3 ∷ []) ≡ Kill ∷ Rest ∷ []
urged = refl

started : map started_after (Starts ∷ Left ∷ []) ≡ Runs 0 ∷ Left ∷ []
started = refl

-- what is done of a node that runs, and how it stands then, by what was seen
does : map (λ seen. deed_at seen 0 (Runs 5)) (Nothing ∷ Started ∷ Ended (Status 0) ∷ Asked ∷ Urged ∷ [])
    ≡ Rest ∷ Rest ∷ SayAgain (Status 0) ∷ CloseInput ∷ Kill ∷ []
does = refl

does_not-close : ¬ (deed_at Asked 0 (Waits 3) ≡ CloseInput)
does_not-close e = absurd cc

stands : map (λ seen. stage_after seen 0 (Runs 5)) (Nothing ∷ Started ∷ Ended (Status 0) ∷ Asked ∷ Urged ∷ [])
    ≡ Runs 6 ∷ Runs 5 ∷ Waits 10 ∷ Closes 500 ∷ Over ∷ []
stands = refl

stands_not-waiting : ¬ (stage_after Urged 0 (Waits 3) ≡ Waits 3)
stands_not-waiting e = absurd cc

two-looks : looks 2 ≡ Nothing ∷ Nothing ∷ []
two-looks = refl

starting : map is_start (Start ∷ Kill ∷ []) ≡ true ∷ false ∷ []
starting = refl

killing : is_kill Kill ≡ true
killing = refl

killing_not-close : is_kill CloseInput ≡ false
killing_not-close = refl
