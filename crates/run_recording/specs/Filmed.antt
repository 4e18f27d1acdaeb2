-- What a film shows of a run, moment by moment.
use Rattle.std.specs.Prelude.{◌≡◌, ℕ, ◌+◌, Bool, false, nat_lt, if◌then◌else◌, List, [], ◌∷◌, ◌++◌, length, Option, None, Some}
use Rattle.world.specs.run_model.World.{World}
use Rattle.world.specs.run_model.NodeCounts.{privileged_count, lending_count}
use Rattle.world.specs.run_model.Run.{run, is_damage}
use Rattle.world.specs.run_model.Count.{IsSweepCount}
use Rattle.world.specs.run_model.declared.event.Event.{Event}
use Rattle.world.specs.judge.Judging.{counted_up_to}
use Rattle.run_recording.specs.declared.still.Still.{Still}
use Rattle.run_recording.specs.Reels.{ReelView, Shows}
use Rattle.run_recording.specs.declared.recording.Take.{Take}
use Rattle.run_recording.specs.declared.window.Window.{Window}
use Rattle.run_recording.specs.Held.{is_held}
use Rattle.run_recording.specs.Seen.{edges_of, looks_of, places_of}
use Rattle.run_recording.specs.UnderWay.{under_way_of}

-- when a still is taken: the last event, the number of events, whether the last one was accepted
-- damage, and the sweeps since the last damage
abbrev pub take_of : Option Event → ℕ → Bool → ℕ → Take
take_of event events damaged sweeps = record { event = event; events = events; damaged = damaged; sweeps = sweeps }

-- what a film shows of a world
abbrev pub still_of : World → Take → Still
still_of w take = record {
  looks = looks_of w;
  places = places_of w.net;
  edges = edges_of w.net;
  under_way = under_way_of w;
  events = take.events;
  event = take.event;
  sweeps = take.sweeps;
  damaged = take.damaged;
  privileged = privileged_count w;
  lending = lending_count w;
}

-- a moment is shown if the window holds the number of sweeps that have ended since the start
abbrev pub filmed_if : Window → ℕ → Still → List Still
filmed_if window ended still = if is_held window ended then still ∷ [] else []

-- how many sweeps have ended after a moment at which the number since the last damage went from
-- `before` to `after`
abbrev pub ended_with : ℕ → ℕ → ℕ → ℕ
ended_with ended before after = counted_up_to (ended + (if nat_lt before after then 1 else 0))

-- These are the moments of a run that a window holds, as a film shows them: the start, and the
-- moment after each event; and this many sweeps have ended in it.
pub data AreFilmed (window : Window) (start : World) : List Event → ℕ → List Still → Type 0 where
  Start : AreFilmed window start [] 0 (filmed_if window 0 (still_of start (take_of None 0 false 0)))
  Next : {es : List Event} {ended : ℕ} {stills : List Still} (e : Event) (before after : ℕ)
      → AreFilmed window start es ended stills
      → IsSweepCount start es before → IsSweepCount start (es ++ e ∷ []) after
      → AreFilmed window start (es ++ e ∷ []) (ended_with ended (counted_up_to before) (counted_up_to after))
      (stills ++ filmed_if window (ended_with ended (counted_up_to before) (counted_up_to after))
      (still_of (run start (es ++ e ∷ [])) (take_of (Some e) (length es + 1) (is_damage (run start es) e) (counted_up_to after))))

-- a reel, if there is one, stands for these moments
abbrev pub IsReeled : Option ReelView → List Still → Type 0
IsReeled None stills = Unit {0}
IsReeled (Some reel) stills = Shows reel stills

-- how many stills a reel, if there is one, may hold after the first moment
abbrev pub room_of : Option ReelView → Option ℕ
room_of None = None
room_of (Some reel) = Some reel.limit
