-- What the steps of a recording say about it, whatever was recorded before.
use Rattle.std.specs.Prelude.{◌≡◌, ℕ, Bool, is_none, List, [], ◌∷◌, ◌++◌, Option, Some, Result, OnOk}
use Rattle.topology.specs.Network.{Network}
use Rattle.world.specs.run_model.World.{World}
use Rattle.world.specs.run_model.Step.{refusal}
use Rattle.world.specs.run_model.Run.{is_damage}
use Rattle.world.specs.run_model.declared.event.Event.{Event}
use Rattle.world.specs.SimulatedText.{events_of}
use Rattle.run_recording.specs.declared.still.Still.{Still}
use Rattle.run_recording.specs.Reels.{ReelView, Shows}
use Rattle.run_recording.specs.declared.column.Column.{Column}
use Rattle.run_recording.specs.declared.recording.Take.{Take}
use Rattle.run_recording.specs.declared.sight.NodesSight.{NodesSight}
use Rattle.run_recording.specs.declared.window.Window.{Window}
use Rattle.run_recording.specs.Seen.{sight_of}
use Rattle.run_recording.specs.Filmed.{filmed_if, still_of, IsReeled}
use Rattle.run_recording.specs.UnderWay.{under_way_of}
use Rattle.run_recording.specs.Recordings.{RecordingView, IsRecorded, IsReading, moment_of}

-- whether an event is accepted damage, given whether it is accepted
abbrev pub IsDamageWhere : Event → Bool → Bool → Type 0
IsDamageWhere e accepted damaged = (w : World) → is_none (refusal w e) ≡ accepted → damaged ≡ is_damage w e

-- a piece of the text is read after what was read
abbrev pub ReadsNext : RecordingView → List ℕ → RecordingView → Type 0
ReadsNext old piece new = (start : World) (bytes : List ℕ) → IsReading start bytes old → IsReading start (bytes ++ piece) new

-- if a source shows that it has these bytes to give, all are read, unless there is a fault
abbrev pub ReadsAll : {T E : Type 0} → RecordingView → Option (List ℕ) → Result T E → RecordingView → Type 0
ReadsAll old rest result new =
    (start : World) (bytes : List ℕ) → rest ≡ Some bytes → IsReading start [] old → OnOk result (IsReading start bytes new)

-- the text has ended: all its events are recorded
abbrev pub EndsThere : RecordingView → RecordingView → Type 0
EndsThere old new = (start : World) (bytes : List ℕ) → IsReading start bytes old → IsRecorded start (events_of bytes) new

-- the column of a moment, for every world with this sight
abbrev pub IsMomentSeen : NodesSight → Network → Bool → ℕ → ℕ → Column → Type 0
IsMomentSeen sight net damaged before after column = (w : World) → sight ≡ sight_of w → net ≡ w.net → column ≡ moment_of w damaged before after

-- the still of a moment, for every world with this sight and with these numbers of frames under way
abbrev pub IsStillSeen : NodesSight → List ℕ → Take → Still → Type 0
IsStillSeen sight under_way take still = (w : World) → sight ≡ sight_of w → under_way ≡ under_way_of w → still ≡ still_of w take

-- the reel gets one more still of a world with this sight
abbrev pub AddsStillSeen : NodesSight → World → Take → ReelView → ReelView → Type 0
AddsStillSeen sight there take old new =
    (w : World) (stills : List Still) → sight ≡ sight_of w → there ≡ w
    → Shows old stills → Shows new (stills ++ still_of w take ∷ [])

-- the reel gets one more still of a world with this sight, if the window holds the moment
abbrev pub KeepsStillSeen : NodesSight → World → Take → Window → ℕ → Option ReelView → Option ReelView → Type 0
KeepsStillSeen sight there take window ended old new =
    (w : World) (stills : List Still) → sight ≡ sight_of w → there ≡ w
    → IsReeled old stills → IsReeled new (stills ++ filmed_if window ended (still_of w take))
