-- What is drawn if elements hold others, as it is meant, before it is spelled.
use Rattle.std.specs.Prelude.{List, [], ◌∷◌, ◌++◌, map}
use Rattle.svg_drawing.specs.Drawn.{Given, Shown, given_of, shown_of}
use Rattle.svg_drawing.specs.declared.element.Group.{Group}
use Rattle.svg_drawing.specs.declared.element.GroupedDrawing.{GroupedDrawing}

-- an element, and those that it holds
pub record Grouped : Type 0 where
  pub element : Shown
  pub inside : List Shown

-- what a group of the code shows
abbrev pub grouped_of : Group → Grouped
grouped_of g = record { element = shown_of g.element; inside = map shown_of g.inside.items }

-- a group with one more element inside
abbrev pub with_inside : Grouped → Shown → Grouped
with_inside g shown = record { element = g.element; inside = g.inside ++ shown ∷ [] }

-- what a drawing shows: its attributes, and its groups, the undermost first
abbrev pub scene_shown : GroupedDrawing → List Grouped
scene_shown scene = map grouped_of scene.groups.items

abbrev pub scene_given : GroupedDrawing → List Given
scene_given scene = map given_of scene.attributes.items
