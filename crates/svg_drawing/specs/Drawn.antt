-- What is drawn: the elements of a drawing as they are meant, before they are spelled.
use Rattle.std.specs.Prelude.{ℕ, List, [], ◌∷◌, ◌++◌, codes, decimal, map, string_bytes}
use Rattle.svg_drawing.specs.declared.element.Attribute.{Attribute}
use Rattle.svg_drawing.specs.declared.element.Element.{Element}
use Rattle.svg_drawing.specs.declared.element.Fixed.{Fixed}
use Rattle.svg_drawing.specs.declared.canvas.Anchor.{Anchor}
use Rattle.svg_drawing.specs.declared.canvas.Anchor.TheVariants.{Start, Middle, End}
use Rattle.svg_drawing.specs.declared.canvas.Stroke.{Stroke}
use Rattle.svg_drawing.specs.declared.canvas.Canvas.{Canvas}
use Rattle.svg_drawing.specs.declared.colours.Colour.{Colour}
use Rattle.svg_drawing.specs.Colours.{colour_code}

-- an attribute: its name and its value
pub record Given : Type 0 where
  pub name : List ℕ
  pub value : List ℕ

-- an element: its name, its attributes in their order, and its text
pub record Shown : Type 0 where
  pub name : List ℕ
  pub attributes : List Given
  pub text : List ℕ

-- an attribute that has a number for its value
abbrev pub numbered : List ℕ → ℕ → Given
numbered name number = record { name = name; value = decimal number }

-- what an attribute of the code says
abbrev pub given_of : Attribute → Given
given_of a = record { name = a.name.now; value = string_bytes a.value }

-- what an element of the code shows
abbrev pub shown_of : Element → Shown
shown_of e = record { name = e.name.now; attributes = map given_of e.attributes.items; text = string_bytes e.text }

-- what is on a canvas, the undermost first
abbrev pub drawn : Canvas → List Shown
drawn canvas = map shown_of canvas.elements.items

-- an element with one more attribute
abbrev pub with_given : Shown → Given → Shown
with_given e given = record { name = e.name; attributes = e.attributes ++ given ∷ []; text = e.text }

-- an attribute that the code knows
abbrev pub fixed_of : Fixed → Given
fixed_of f = record { name = f.0.now; value = f.1.now }

-- an element with such attributes after its own
abbrev pub with_all : Shown → List Fixed → Shown
with_all e fixed = record { name = e.name; attributes = e.attributes ++ map fixed_of fixed; text = e.text }

-- an element with a text after its own
abbrev pub with_text : Shown → List ℕ → Shown
with_text e text = record { name = e.name; attributes = e.attributes; text = e.text ++ text }

-- ---- what can be drawn

-- an element that is not seen, but says something about the drawing
abbrev pub note_shown : List ℕ → List ℕ → Shown
note_shown name text = record { name = name; attributes = []; text = text }

-- a filled rectangle: its left and upper ends, its width and its height
abbrev pub rect_shown : ℕ → ℕ → ℕ → ℕ → Colour → Shown
rect_shown x y width height colour = record {
  name = codes "rect";
  attributes = numbered (codes "x") x ∷ numbered (codes "y") y ∷ numbered (codes "width") width ∷ numbered (codes "height") height
      ∷ record { name = codes "fill"; value = colour_code colour } ∷ [];
  text = [];
}

-- a filled circle: its middle and its radius
abbrev pub circle_shown : ℕ → ℕ → ℕ → Colour → Shown
circle_shown x y radius colour = record {
  name = codes "circle";
  attributes = numbered (codes "cx") x ∷ numbered (codes "cy") y ∷ numbered (codes "r") radius
      ∷ record { name = codes "fill"; value = colour_code colour } ∷ [];
  text = [];
}

-- how a line is drawn: its colour, its width, and the lengths of its dashes and gaps
pub record Pen : Type 0 where
  pub colour : Colour
  pub width : ℕ
  pub dashes : List ℕ

-- a line without gaps
abbrev pub whole : Colour → ℕ → Pen
whole colour width = record { colour = colour; width = width; dashes = codes "none" }

-- a line's stroke in the code, as such a pen
abbrev pub pen_of : Stroke → Pen
pen_of stroke = record { colour = stroke.colour; width = stroke.width.0; dashes = stroke.dashes.now }

-- a line of any form, along the steps of an SVG path
abbrev pub path_shown : List ℕ → Pen → Shown
path_shown steps pen = record {
  name = codes "path";
  attributes = record { name = codes "d"; value = steps } ∷ record { name = codes "fill"; value = codes "none" }
      ∷ record { name = codes "stroke"; value = colour_code pen.colour } ∷ numbered (codes "stroke-width") pen.width
      ∷ record { name = codes "stroke-dasharray"; value = pen.dashes } ∷ [];
  text = [];
}

-- a straight line, from one place to another
abbrev pub line_shown : ℕ → ℕ → ℕ → ℕ → Pen → Shown
line_shown x y end_x end_y pen =
    path_shown (codes "M" ++ (decimal x ++ (codes " " ++ (decimal y ++ (codes "L" ++ (decimal end_x ++ (codes " " ++ decimal end_y))))))) pen

-- a filled form, bounded by the steps of an SVG path
abbrev pub form_shown : List ℕ → Colour → Shown
form_shown steps colour = record {
  name = codes "path";
  attributes = record { name = codes "d"; value = steps } ∷ record { name = codes "fill"; value = colour_code colour } ∷ [];
  text = [];
}

-- which part of a text is at its place: its left end, its middle or its right end
abbrev pub anchor_code : Anchor → List ℕ
anchor_code Start = codes "start"
anchor_code Middle = codes "middle"
anchor_code End = codes "end"

-- a text in one line, its baseline at a place
abbrev pub words_shown : ℕ → ℕ → Anchor → Colour → List ℕ → Shown
words_shown x y anchor colour text = record {
  name = codes "text";
  attributes = numbered (codes "x") x ∷ numbered (codes "y") y ∷ record { name = codes "text-anchor"; value = anchor_code anchor }
      ∷ record { name = codes "fill"; value = colour_code colour } ∷ [];
  text = text;
}

-- a heading, its baseline at a place
abbrev pub heading_shown : ℕ → ℕ → List ℕ → Shown
heading_shown x y text = record {
  name = codes "text";
  attributes = numbered (codes "x") x ∷ numbered (codes "y") y ∷ record { name = codes "font-size"; value = codes "16" }
      ∷ record { name = codes "font-weight"; value = codes "bold" } ∷ [];
  text = text;
}
