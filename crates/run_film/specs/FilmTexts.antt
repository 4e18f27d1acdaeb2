-- The texts of a film and of its page, and what of a run they show.
use Rattle.std.specs.Prelude.{◌≡◌, ℕ, ◌≤◌, List, length, Some}
use Rattle.topology.specs.Network.{Network}
use Rattle.svg_drawing.specs.declared.element.Document.{Document}
use Rattle.svg_drawing.specs.declared.element.GroupedDrawing.{GroupedDrawing}
use Rattle.svg_drawing.specs.Grouped.{scene_shown}
use Rattle.svg_drawing.specs.Spelling.{document_text, scene_text}
use Rattle.svg_drawing.specs.Xml.{IsContent, IsDocument}
use Rattle.run_recording.specs.run_model.declared.event.Event.{Event}
use Rattle.run_recording.specs.declared.window.Window.{Window}
use Rattle.run_recording.specs.declared.still.Still.{Still}
use Rattle.run_recording.specs.Reels.{ReelView, Shows}
use Rattle.run_recording.specs.Filmed.{AreFilmed}
use Rattle.run_recording.specs.SimulatedText.{simulated_start}
use Rattle.run_film.specs.declared.pace.FilmPace.{FilmPace}
use Rattle.run_film.specs.Beats.{Film, beats_at}
use Rattle.run_film.specs.Films.{ShowsFilm}
use Rattle.run_film.specs.Pages.{ShowsPage}

-- A reel stands for all moments of a run that a window holds, from the start of a network on, in their
-- order: the first is shown as it was, and then come the reel's stills.
pub record IsReelOf (net : Network) (window : Window) (es : List Event) (reel : ReelView) : Type 0 where
  pub moments : List Still
  pub ended : ℕ
  pub are : AreFilmed window (simulated_start net) es ended moments
  pub shown : Shows reel moments

-- the film of a reel, from its first moment on
abbrev pub film_at : ReelView → FilmPace → Still → Film
film_at reel pace opening = record { opening = opening; later = reel.stills; pace = pace }

-- each still is shown for a beat at least
abbrev pub IsEachShown : ReelView → FilmPace → Type 0
IsEachShown reel pace = (opening : Still) (place : ℕ) → place ≤ length reel.stills → 1 ≤ beats_at (film_at reel pace opening) place

-- A text shows a run: with tags that nest, it spells what shows a reel of the run, at some pace. If
-- the window holds no moment, nothing is said of what it shows. `Shows` says when it shows a film,
-- `spelling` how it is spelled, and `Nests` when its tags nest.
pub record IsShowing {M : Type 0} (Shows : M → Film → Network → Type 0) (spelling : M → List ℕ) (Nests : List ℕ → Type 0)
    (net : Network) (window : Window) (es : List Event) (text : List ℕ) : Type 0 where
  pub reel : ReelView
  pub of_run : IsReelOf net window es reel
  pub pace : FilmPace
  pub each : IsEachShown reel pace
  pub made : M
  pub plays : (opening : Still) → reel.opening ≡ Some opening → Shows made (film_at reel pace opening) net
  pub spelled : text ≡ spelling made
  pub nests : Nests text

-- a text is a film of a run
abbrev pub IsFilm : Network → Window → List Event → List ℕ → Type 0
IsFilm net window es text = IsShowing (λ (scene : GroupedDrawing). ShowsFilm (scene_shown scene)) scene_text IsContent net window es text

-- a text is a page with a film of a run
abbrev pub IsPage : Network → Window → List Event → List ℕ → Type 0
IsPage net window es text = IsShowing ShowsPage document_text IsDocument net window es text
