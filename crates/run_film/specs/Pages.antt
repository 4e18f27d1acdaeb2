-- A page that holds a film.
use Rattle.std.specs.Prelude.{◌≡◌, ℕ, ◌+◌, Bool, not, if◌then◌else◌, List, [], ◌∷◌, ◌++◌, Option, None, Some, codes, decimal, map}
use Rattle.std.specs.List.{count_by, join_with_byte}
use Rattle.svg_drawing.specs.Drawn.{Shown as Drawn, note_shown}
use Rattle.svg_drawing.specs.Grouped.{Grouped}
use Rattle.run_recording.specs.run_model.declared.event.Event.{Event}
use Rattle.run_recording.specs.events_text.EventLaws.{event_words}
use Rattle.run_recording.specs.declared.still.Still.{Still}
use Rattle.run_film.specs.Beats.{Film, beats_at}
use Rattle.run_film.specs.Films.{ShowsFilm}
use Rattle.topology.specs.Network.{Network}
use Rattle.svg_drawing.specs.Grouped.{grouped_of, scene_shown}
use Rattle.svg_drawing.specs.declared.element.Document.{Document}
use Rattle.run_film.specs.Tracks.{given}

-- how many events led to a still, and the last of them, as the line that spells it
abbrev pub event_said_by : ℕ → Option Event → List ℕ
event_said_by events (Some e) = codes "Event " ++ (decimal events ++ (codes ", " ++ (join_with_byte 32 (event_words e) ++ codes ": ")))
event_said_by events None = codes "The start: "

abbrev pub event_said : Still → List ℕ
event_said still = event_said_by still.events still.event

-- what is counted in a still: the nodes that do not have their true places, the privileged nodes,
-- the lending nodes, and the sweeps
abbrev pub counts_said : Still → List ℕ
counts_said still =
    (if still.damaged then codes "damage, " else [])
    ++ (decimal (count_by (λ look. not look.settled) still.looks) ++ (codes " wrong, " ++ (decimal still.privileged ++ (codes " privileged, "
    ++ (decimal still.lending ++ (codes " lending; " ++ (decimal still.sweeps ++ codes " sweeps since the last damage.")))))))

-- the sentence of a still, and for how many beats it is shown
abbrev pub step_shown : Still → ℕ → Drawn
step_shown still beats = record {
  name = codes "li";
  attributes = given (codes "data-beats") (decimal beats) ∷ [];
  text = event_said still ++ counts_said still;
}

-- the sentences of the stills from a place on
abbrev pub later_steps : Film → ℕ → List Still → List Drawn
later_steps film place [] = []
later_steps film place (still ∷ stills) = step_shown still (beats_at film place) ∷ later_steps film (place + 1) stills

-- the sentences of the first still and of some stills after it, in their order
abbrev pub steps_to : Film → List Still → Grouped
steps_to film stills = record {
  element = record { name = codes "ol"; attributes = given (codes "id") (codes "steps") ∷ given (codes "hidden") (codes "hidden") ∷ []; text = [] };
  inside = step_shown film.opening (beats_at film 0) ∷ later_steps film 1 stills;
}

-- the sentences of all stills
abbrev pub steps_shown : Film → Grouped
steps_shown film = steps_to film film.later

-- a page has the sentence of each still
abbrev pub HoldsSteps : List Grouped → Film → Type 0
HoldsSteps groups film = (front : List Grouped) × (groups ≡ front ++ (steps_shown film ∷ []))

-- what comes before the film is the head of the page, alone
abbrev pub IsPageHead : List Grouped → Type 0
IsPageHead groups = map (λ g. g.element) groups ≡ note_shown (codes "head") [] ∷ []

-- a page shows a network as the film does, and has a sentence for each still
pub record ShowsPage (page : Document) (film : Film) (net : Network) : Type 0 where
  pub head : IsPageHead (map grouped_of page.before.items)
  pub plays : ShowsFilm (scene_shown page.scene) film net
  pub steps : HoldsSteps (map grouped_of page.after.items) film
