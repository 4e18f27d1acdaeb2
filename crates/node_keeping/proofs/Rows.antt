-- Small examples of each definition, and ones that fail.
use Rattle.std.proofs.Common.{◌≡◌, ◌≢◌, true, false, List, [], ◌∷◌, Ok, Err, refl, arith}
use Rattle.std.specs.declared.io.ErrorKind.TheVariants.{NotFound, PermissionDenied}
use Rattle.node_texts.specs.declared.lines.End.TheVariants.{Status, Signal}
use Rattle.node_keeping.specs.declared.sight.FileId.{FileId}
use Rattle.node_keeping.specs.declared.sight.FileSight.TheVariants.{Own, NotOwn, Unseen}
use Rattle.node_keeping.specs.declared.saved.StopSight.TheVariants.{Absent, Removed, Stays}
use Rattle.node_keeping.specs.declared.saved.Sights.{Sights}
use Rattle.node_keeping.specs.declared.saved.Lost.{Lost}
use Rattle.node_keeping.specs.declared.saved.AfterSave.TheVariants.{Displaced, StopStays, Stop, GoOn}
use Rattle.node_keeping.specs.declared.keeper.KeeperStage.TheVariants.{Waits, Runs, Left}
use Rattle.node_keeping.specs.declared.keeper.Seen.{Seen}
use Rattle.node_keeping.specs.declared.keeper.Seen.TheVariants.{Nothing, Started, Ended, Asked}
use Rattle.node_keeping.specs.declared.keeper.KeeperDeed.TheVariants.{Rest, Start, SayAgain, SayLeft, SayGone, CloseInput}
use Rattle.node_keeping.specs.Sight.{file_sight}
use Rattle.node_keeping.specs.AfterSave.{after_save}
use Rattle.node_keeping.specs.Steps.{deeds, stage_after_all}

-- file 7 of device 1 is known by both numbers
file : FileId
file = record { device = 1; inode = 7 }

sight-own : file_sight file (Ok file) ≡ Own
unfolding file
sight-own = refl

sight_not-inode : file_sight file (Ok (record { device = 1; inode = 8 })) ≡ NotOwn
unfolding file
sight_not-inode = refl

sight_not-device : file_sight file (Ok (record { device = 2; inode = 7 })) ≡ NotOwn
unfolding file
sight_not-device = refl

sight-gone : file_sight file (Err NotFound) ≡ NotOwn
sight-gone = refl

sight-unseen : file_sight file (Err PermissionDenied) ≡ Unseen
sight-unseen = refl

-- all is well; names are gone; it is stopped; the stop file stays; the folder is another's
none-lost : Lost
none-lost = record { links = false; clients = false; looks = false }

well : Sights
well = record { place = Own; stop = Absent; is_asked = false; links = Own; clients = Own; looks = Own }

saves-on : after_save well ≡ GoOn none-lost
unfolding well none-lost
saves-on = refl

saves-renews : after_save (record well { links = Unseen; clients = NotOwn }) ≡ GoOn (record none-lost { clients = true })
unfolding well none-lost
saves-renews = refl

saves-renews_looks : after_save (record well { looks = NotOwn }) ≡ GoOn (record none-lost { looks = true })
unfolding well none-lost
saves-renews_looks = refl

saves-stop : after_save (record well { place = Unseen; stop = Removed }) ≡ Stop
unfolding well
saves-stop = refl

saves-asked : after_save (record well { is_asked = true; links = NotOwn }) ≡ Stop
unfolding well
saves-asked = refl

saves-stays : after_save (record well { stop = Stays; is_asked = true }) ≡ StopStays
unfolding well
saves-stays = refl

saves-displaced : after_save (record well { place = NotOwn; is_asked = true; links = NotOwn }) ≡ Displaced
unfolding well
saves-displaced = refl

saves_not-on : after_save (record well { place = NotOwn }) ≢ GoOn none-lost
unfolding well none-lost
saves_not-on = grind arith

-- a node that was killed is started again; as it ends with status 1 three times at its start, it is left alone
killed : List Seen
killed = Nothing ∷ Started ∷ Ended (Signal 9) ∷ Nothing ∷ []

does-killed : deeds 0 (Waits 0) killed ≡ Start ∷ Rest ∷ SayAgain (Signal 9) ∷ Rest ∷ []
unfolding killed
does-killed = refl

does-failed : deeds 2 (Runs 99) (Ended (Status 1) ∷ Nothing ∷ []) ≡ SayLeft (Status 1) ∷ Rest ∷ []
does-failed = refl

does-failed_twice : deeds 1 (Runs 99) (Ended (Status 1) ∷ []) ≡ SayAgain (Status 1) ∷ []
does-failed_twice = refl

does-late : deeds 2 (Runs 100) (Ended (Status 1) ∷ []) ≡ SayAgain (Status 1) ∷ []
does-late = refl

does-well : deeds 2 (Runs 3) (Ended (Status 0) ∷ []) ≡ SayAgain (Status 0) ∷ []
does-well = refl

-- as `up` is asked to end, a node that runs is asked too, and one that waits is not started
does-ended : deeds 0 (Runs 7) (Asked ∷ Nothing ∷ Ended (Status 0) ∷ Nothing ∷ []) ≡ CloseInput ∷ Rest ∷ SayGone (Status 0) ∷ Rest ∷ []
does-ended = refl

does-ended_waiting : deeds 0 (Waits 0) (Asked ∷ Nothing ∷ []) ≡ Rest ∷ Rest ∷ []
does-ended_waiting = refl

does_not-ended_waiting : deeds 0 (Waits 0) (Asked ∷ Nothing ∷ []) ≢ Rest ∷ Start ∷ []
does_not-ended_waiting = grind arith

left-alone : stage_after_all 2 (Runs 5) (Ended (Status 1) ∷ Nothing ∷ Started ∷ []) ≡ Left
left-alone = refl
