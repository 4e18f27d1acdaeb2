-- What is seen of a run, moment by moment.
use Rattle.std.specs.Prelude.{◌≡◌, ℕ, ◌+◌, ◌==◌, ◌&&◌, Bool, false, not, nat_lt, if◌then◌else◌, List, [], ◌∷◌, ◌++◌, length, Option}
use Rattle.topology.specs.Network.{bound_of}
use Rattle.topology.specs.Eccentricity.{sharp_of}
use Rattle.world.specs.run_model.World.{World}
use Rattle.world.specs.run_model.NodeCounts.{privileged_count, lending_count}
use Rattle.world.specs.run_model.Run.{run, is_damage}
use Rattle.world.specs.run_model.Count.{IsSweepCount}
use Rattle.world.specs.run_model.declared.event.Event.{Event}
use Rattle.byte_lines.specs.Kept.{Kept, StandsAfter}
use Rattle.world.specs.events_text.EventsText.{ended_lines}
use Rattle.world.specs.judge.JudgeView.{JudgeView, HasSeen}
use Rattle.world.specs.judge.Judging.{counted_up_to}
use Rattle.world.specs.SimulatedText.{said_events}
use Rattle.run_recording.specs.declared.column.Column.{Column}
use Rattle.run_recording.specs.declared.recording.Before.{Before}
use Rattle.run_recording.specs.declared.window.Window.{Window}
use Rattle.run_recording.specs.declared.still.Still.{Still}
use Rattle.run_recording.specs.Reels.{ReelView}
use Rattle.run_recording.specs.Held.{is_held}
use Rattle.run_recording.specs.Filmed.{AreFilmed, IsReeled}
use Rattle.run_recording.specs.Laned.{AreWorlds, IsLaned, LanesView}
use Rattle.run_recording.specs.Seen.{marks_of}
use Rattle.run_recording.specs.Strips.{StripView, Shows}

-- What is seen of a world at a moment at which the sweeps since the last damage went from `before`
-- to `after`: its nodes, whether there was damage, whether a sweep has ended, and whether a bound
-- is reached with it.
abbrev pub moment_of : World → Bool → ℕ → ℕ → Column
moment_of w damaged before after = record {
  marks = marks_of w;
  privileged = privileged_count w;
  lending = lending_count w;
  sweeps = if nat_lt before after then 1 else 0;
  damaged = damaged;
  sharp = nat_lt before after && (after == sharp_of w.net);
  bound = nat_lt before after && (after == bound_of w.net);
}

abbrev pub shown_if : Window → ℕ → Column → List Column
shown_if window ended moment = if is_held window ended then moment ∷ [] else []

-- how many sweeps have ended after one more moment
abbrev pub ended_at : ℕ → Column → ℕ
ended_at ended moment = counted_up_to (ended + moment.sweeps)

-- These are the moments of a run that a window holds: the start, and the moment after each event;
-- and this many sweeps have ended in it.
pub data AreMoments (window : Window) (start : World) : List Event → ℕ → List Column → Type 0 where
  Start : AreMoments window start [] 0 (shown_if window 0 (moment_of start false 0 0))
  Next : {es : List Event} {ended : ℕ} {moments : List Column} (e : Event) (before after : ℕ)
      → AreMoments window start es ended moments
      → IsSweepCount start es before → IsSweepCount start (es ++ e ∷ []) after
      → (moment : Column)
      → moment ≡ moment_of (run start (es ++ e ∷ [])) (is_damage (run start es) e) (counted_up_to before) (counted_up_to after)
      → AreMoments window start (es ++ e ∷ []) (ended_at ended moment) (moments ++ shown_if window (ended_at ended moment) moment)

-- The first moment of a run that a window holds is the one after all these events, with this many
-- sweeps ended before it: it is the start, or the moment after the last event, and none before it
-- is held.
pub data IsFirstHeld (window : Window) (start : World) : List Event → ℕ → Type 0 where
  AtStart : (moment : Column) → AreMoments window start [] 0 (moment ∷ []) → IsFirstHeld window start [] 0
  Following : {es : List Event} {sweeps ended : ℕ} (e : Event) (moment : Column)
      → AreMoments window start es sweeps [] → AreMoments window start (es ++ e ∷ []) ended (moment ∷ [])
      → IsFirstHeld window start (es ++ e ∷ []) sweeps

-- What came before the first moment of a run that a window holds: exactly the events of its front
-- led to this moment, and this many sweeps had ended before it.
pub record IsBefore (window : Window) (start : World) (es : List Event) (before : Before) : Type 0 where
  pub front : List Event
  pub back : List Event
  pub are : es ≡ front ++ back
  pub first : IsFirstHeld window start front before.sweeps
  pub events_are : before.events ≡ length front

-- if any moments of a run are shown, this was before the first of them
abbrev pub IsBeforeAny : Window → World → List Event → List Column → Before → Type 0
IsBeforeAny window start es [] before = Unit {0}
IsBeforeAny window start es (moment ∷ moments) before = IsBefore window start es before

-- what contracts see of a recording: its judge; what is kept of the line under way; the columns;
-- the stills of a film, if one is made; what has settled, if that is asked for; the window; the
-- sweeps that have ended; the number of events; the number of lines that spelled none; and what
-- came before the first moment shown
pub record RecordingView : Type 0 where
  pub judge : JudgeView
  pub reader : Kept
  pub strip : StripView
  pub reel : Option ReelView
  pub lanes : Option LanesView
  pub window : Window
  pub ended : ℕ
  pub events : ℕ
  pub unread : ℕ
  pub before : Before

-- these events are recorded: the columns show the moments that the window holds, and what was
-- before the first of them is known
pub record IsRecorded (start : World) (es : List Event) (r : RecordingView) : Type 0 where
  pub seen : HasSeen r.judge start es
  pub moments : List Column
  pub are : AreMoments r.window start es r.ended moments
  pub shown : Shows r.strip moments
  pub stills : List Still
  pub filmed : AreFilmed r.window start es r.ended stills
  pub reeled : IsReeled r.reel stills
  pub worlds : List World
  pub are_worlds : AreWorlds r.window start es r.ended worlds
  pub laned : IsLaned r.lanes worlds
  pub events_are : r.events ≡ length es
  pub before_is : IsBeforeAny r.window start es moments r.before

-- after any recorded events, these are recorded
abbrev pub RecordsNext : RecordingView → List Event → RecordingView → Type 0
RecordsNext old more new = (start : World) (es : List Event) → IsRecorded start es old → IsRecorded start (es ++ more) new

-- the events of the whole lines in these bytes are recorded, and the line under way is kept
pub record IsReading (start : World) (bytes : List ℕ) (r : RecordingView) : Type 0 where
  pub stands : StandsAfter 64 bytes r.reader
  pub recorded : IsRecorded start (said_events (ended_lines bytes)) r
