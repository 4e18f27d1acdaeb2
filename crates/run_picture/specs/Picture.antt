-- The picture of a run.
use Rattle.std.specs.Prelude.{◌≡◌, ℕ, ◌+◌, ◌<◌, true, false, Option, None, Some, List, [], ◌∷◌, ◌++◌, length, map, codes, decimal}
use Rattle.topology.specs.Network.{Network}
use Rattle.svg_drawing.specs.declared.element.Drawing.{Drawing}
use Rattle.run_picture.specs.declared.layout.page.Page.{Page}
use Rattle.run_picture.specs.Axis.{IsAxis}
use Rattle.run_picture.specs.Curves.{curves_shown, levels_shown}
use Rattle.svg_drawing.specs.Drawn.{Given, Shown, given_of, shown_of, numbered, rect_shown}
use Rattle.run_picture.specs.Head.{head_shown, said_words}
use Rattle.run_picture.specs.Lanes.{AreLanes}
use Rattle.run_picture.specs.Legend.{legend_shown}
use Rattle.run_picture.specs.Page.{page_of, page_width, page_height}
use Rattle.run_recording.specs.Recordings.{RecordingView}
use Rattle.run_picture.specs.Ruler.{IsRuler}
use Rattle.run_picture.specs.Tree.{tree_shown}
use Rattle.run_recording.specs.Visits.{first_visits}
use Rattle.run_recording.specs.Held.{is_held}
use Rattle.run_recording.specs.Laned.{LanesView}
use Rattle.run_recording.specs.configuration.ConfigurationView.{world_of}
use Rattle.run_recording.specs.layers.LayersOf.{AreLayersOf}
use Rattle.run_recording.specs.layers.declared.whole.Layers.{Layers}
use Rattle.run_picture.specs.Settled.{all_lanes_shown}
use Rattle.svg_drawing.specs.declared.colours.Colour.TheVariants.{Paper}
use Rattle.svg_drawing.specs.Lengths.{px}

-- what the element that holds a page says: that it is SVG 1.1, how large the page is, and in which
-- font it is written
abbrev pub attributes_of : ℕ → ℕ → List Given
attributes_of width height =
    record { name = codes "xmlns"; value = codes "http://www.w3.org/2000/svg" } ∷ record { name = codes "version"; value = codes "1.1" }
    ∷ numbered (codes "width") width ∷ numbered (codes "height") height
    ∷ record { name = codes "viewBox"; value = codes "0 0 " ++ (decimal width ++ (codes " " ++ decimal height)) }
    ∷ record { name = codes "font-family"; value = codes "sans-serif" } ∷ record { name = codes "font-size"; value = codes "11" } ∷ []

-- the same for a page
abbrev pub page_attributes : Page → List Given
page_attributes page = attributes_of (page_width page) (page_height page)

-- These elements show a recording on the page of a network, each part over those before it: head,
-- legend, tree, lanes, the curves' levels, the curves, the axis of events, and what stands above
-- the lanes. The lanes are those of the nodes in the order in which the tour of the tree first
-- reaches them.
pub record ShowsRun (page : Page) (net : Network) (r : RecordingView) (shown : List Shown) : Type 0 where
  pub lanes : List Shown
  pub are_lanes : AreLanes page r.strip.columns 0 (first_visits net) lanes
  pub axis : List Shown
  pub is_axis : IsAxis page r.before.events r.strip.width axis
  pub ruler : List Shown
  pub is_ruler : IsRuler page r.before.sweeps r.strip.columns ruler
  pub are : shown
      ≡ head_shown page net (said_words r)
      ++ (legend_shown r.strip.width
      ++ (tree_shown page net (first_visits net)
      ++ (lanes ++ (levels_shown page r.strip.columns ++ (curves_shown page r.strip.columns ++ (axis ++ ruler))))))

-- The drawing is the picture of a recorded run on a network: its page is as wide as the recording's
-- columns ask for, and it shows the recording, and nothing else.
pub record IsPicture (net : Network) (r : RecordingView) (drawing : Drawing) : Type 0 where
  pub attributes : map given_of drawing.attributes.items ≡ page_attributes (page_of net (length r.strip.columns))
  pub elements : ShowsRun (page_of net (length r.strip.columns)) net r (map shown_of drawing.elements.items)

-- What had settled at the last moment of the last column, if that column is not full. It shows
-- `left` moments, the last of which is the end of the run. There is nothing if all columns are full
-- or the window does not hold the end.
pub data IsLastState (r : RecordingView) (left : ℕ) : List Layers → Type 0 where
  AllFull : left ≡ 0 → IsLastState r left []
  NotHeld : is_held r.window r.ended ≡ false → IsLastState r left []
  AtEnd : (layers : Layers) → 0 < left → is_held r.window r.ended ≡ true
      → AreLayersOf (world_of r.judge.configuration) layers → IsLastState r left (layers ∷ [])

-- the state of the last column, if there is one, is added to the states of the full columns
abbrev pub AddsLastState : RecordingView → ℕ → List Layers → List Layers → Type 0
AddsLastState r left old new = (last : List Layers) × IsLastState r left last × (new ≡ old ++ last)

-- These states are what had settled at the last moment of each column of the recording's lanes: of
-- each full column as it was kept, and of the last one.
abbrev pub AreStates : RecordingView → Option LanesView → List Layers → Type 0
AreStates r None states = states ≡ []
AreStates r (Some lanes) states = AddsLastState r lanes.left lanes.states states

abbrev pub AreStatesOf : RecordingView → List Layers → Type 0
AreStatesOf r states = AreStates r r.lanes states

-- what is below the picture: the background, and on it the lanes of what had settled
abbrev pub below_shown : Page → List Layers → List Shown
below_shown page states = rect_shown 0 (page_height page) (page_width page) 72 Paper ∷ all_lanes_shown page states

-- The drawing is the picture of a recorded run, and below it are the lanes of what had settled at
-- the last moment of each column of the recording's lanes; its page is 72 higher.
pub record IsLayeredPicture (net : Network) (r : RecordingView) (drawing : Drawing) : Type 0 where
  pub states : List Layers
  pub are_states : AreStatesOf r states
  pub upper : List Shown
  pub attributes : map given_of drawing.attributes.items
      ≡ attributes_of (page_width (page_of net (length r.strip.columns))) (px (page_height (page_of net (length r.strip.columns)) + 72))
  pub shows : ShowsRun (page_of net (length r.strip.columns)) net r upper
  pub elements : map shown_of drawing.elements.items ≡ upper ++ below_shown (page_of net (length r.strip.columns)) states
