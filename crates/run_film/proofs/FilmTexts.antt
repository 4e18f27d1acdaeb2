-- A text shows a run, and each still of it has a beat.
use Rattle.std.proofs.Common.{◌≡◌, refl, subst, ℕ, ◌+◌, ◌-◌, ◌/◌, ◌≤◌, max, List, length, Option, None, Some, arith}
use Rattle.std.proofs.lemmas.Grind.{common_steps}
use Rattle.std.proofs.lemmas.Nat.{le-div}
use Rattle.topology.specs.Network.{Network}
use Rattle.run_recording.specs.run_model.declared.event.Event.{Event}
use Rattle.run_recording.specs.declared.window.Window.{Window}
use Rattle.run_recording.specs.declared.still.Still.{Still}
use Rattle.run_recording.specs.Reels.{ReelView}
use Rattle.run_recording.specs.Filmed.{room_of}
use Rattle.run_recording.specs.Recordings.{IsRecorded, RecordingView}
use Rattle.run_recording.specs.SimulatedText.{simulated_start}
use Rattle.run_film.specs.declared.pace.FilmPace.{FilmPace}
use Rattle.run_film.specs.Beats.{Film}
use Rattle.run_film.specs.FilmTexts.{film_at, IsEachShown, IsReelOf, IsShowing}

one_each : (reel : ReelView) (pace : FilmPace) → 10 ≤ pace.beats → reel.limit ≡ max pace.beats 3 - 1 → length reel.stills ≤ reel.limit → IsEachShown reel pace
one_each reel pace some limit few =
    λ opening place there.
    let room : length reel.stills + 1 ≤ pace.beats = grind (arith, common_steps) in
    let one : 1 ≤ pace.beats / (length reel.stills + 1) = le-div 1 pace.beats (length reel.stills + 1) (omega arith) (omega (arith, room)) in
    omega (arith, one)

-- a reel with so much room is there
there_is : (o : Option ReelView) (n : ℕ) → room_of o ≡ Some n → (reel : ReelView) × (o ≡ Some reel) × (reel.limit ≡ n)
there_is None n room = let no : ⊥ = grind (arith, room) in elim no [ ]
there_is (Some reel) n room = (reel, refl, grind (arith, room))

reel_is : (net : Network) (window : Window) (es : List Event) (r : RecordingView) (reel : ReelView) → IsRecorded (simulated_start net) es r → r.window ≡ window
    → r.reel ≡ Some reel → IsReelOf net window es reel
reel_is net window es r reel h same is = record { moments = h.stills; ended = r.ended; are = rw same at h.filmed; shown = rw is at h.reeled }

module _ (net : Network) (window : Window) (es : List Event) (r : RecordingView) (pace : FilmPace) (h : IsRecorded (simulated_start net) es r) (same : r.window ≡ window)
    (some : 10 ≤ pace.beats) (few : (reel : ReelView) → r.reel ≡ Some reel → length reel.stills ≤ reel.limit)
    {M : Type 0} (Shows : M → Film → Network → Type 0) (spelling : M → List ℕ) (Nests : List ℕ → Type 0) (made : M) (text : List ℕ)
    (plays : (reel : ReelView) (opening : Still) → r.reel ≡ Some reel → reel.opening ≡ Some opening → Shows made (film_at reel pace opening) net) where
  shown_from : text ≡ spelling made → Nests text → (reel : ReelView) × (r.reel ≡ Some reel) × (reel.limit ≡ max pace.beats 3 - 1)
      → IsShowing Shows spelling Nests net window es text
  shown_from spelled nests (reel, is, limit) = record {
    reel = reel;
    of_run = reel_is net window es r reel h same is;
    pace = pace;
    each = one_each reel pace some limit (few reel is);
    made = made;
    plays = λ opening first. plays reel opening is first;
    spelled = spelled;
    nests = nests;
  }

  pub shown_is : room_of r.reel ≡ Some (max pace.beats 3 - 1) → text ≡ spelling made → Nests text
      → IsShowing Shows spelling Nests net window es text
  shown_is room spelled nests = shown_from spelled nests (there_is r.reel _ room)
