-- Small examples of colours, lengths, elements and their text, and some that look like them and are
-- none.
use Rattle.std.proofs.Common.{◌≡◌, ◌≢◌, ℕ, List, [], ◌∷◌, codes, decimal, string_bytes, ap, refl, arith}
use Rattle.std.proofs.lemmas.Fmt.{decimal_digit}
use Rattle.std.proofs.lemmas.Grind.{common_steps}
use Rattle.svg_drawing.specs.declared.canvas.Canvas.{Canvas}
use Rattle.svg_drawing.specs.declared.canvas.Stroke.{Stroke}
use Rattle.svg_drawing.specs.declared.element.Attribute.{Attribute}
use Rattle.svg_drawing.specs.declared.element.Drawing.{Drawing}
use Rattle.svg_drawing.specs.declared.element.Element.{Element as CodeElement}
use Rattle.svg_drawing.specs.declared.element.Fixed.{Fixed}
use Rattle.svg_drawing.specs.declared.colours.Colour.TheVariants.{Pale, Red, Ink, Sky, Vermilion}
use Rattle.svg_drawing.specs.declared.canvas.Anchor.TheVariants.{Start, Middle, End}
use Rattle.svg_drawing.specs.Colours.{colour_code}
use Rattle.svg_drawing.specs.Drawn.{anchor_code, circle_shown, drawn, form_shown, given_of, heading_shown, line_shown, note_shown, numbered, path_shown, pen_of, rect_shown, shown_of, whole}
use Rattle.svg_drawing.specs.Drawn.{Shown, with_all, with_given, with_text, words_shown}
use Rattle.svg_drawing.specs.Lengths.{px}
use Rattle.svg_drawing.specs.Spelling.{attribute_text, drawing_text, element_text, end_tag, escaped, escaped_byte, start_tag}
use Rattle.svg_drawing.specs.Xml.{IsContent}
use Rattle.svg_drawing.specs.Xml.IsContent.{Nothing, Text, Element}

-- ---- colours and lengths

red : colour_code Red ≡ codes "#a3142e"
red = refl

red_not-pale : colour_code Red ≢ colour_code Pale
red_not-pale = grind arith

vermilion : colour_code Vermilion ≡ codes "#d55e00"
vermilion = refl

sky_not-vermilion : colour_code Sky ≢ colour_code Vermilion
sky_not-vermilion = grind arith

-- a length that 32 bits do not hold is the greatest that they hold
longest : px 4294967296 ≡ 4294967295
longest = refl

longest_not-cut : px 4294967295 ≢ 4294967294
longest_not-cut = grind arith

-- ---- elements

rect : rect_shown 1 2 3 4 Red ≡ record {
  name = codes "rect";
  attributes = record { name = codes "x"; value = decimal 1 } ∷ record { name = codes "y"; value = decimal 2 } ∷ record { name = codes "width"; value = decimal 3 }
      ∷ record { name = codes "height"; value = decimal 4 } ∷ record { name = codes "fill"; value = codes "#a3142e" } ∷ [];
  text = [];
}
rect = refl

circle : circle_shown 1 2 3 Pale ≡ record {
  name = codes "circle";
  attributes = record { name = codes "cx"; value = decimal 1 } ∷ record { name = codes "cy"; value = decimal 2 } ∷ record { name = codes "r"; value = decimal 3 }
      ∷ record { name = codes "fill"; value = codes "#e6edf2" } ∷ [];
  text = [];
}
circle = refl

-- a line goes from its first place to its second
line : line_shown 1 2 3 4 (whole Ink 5) ≡ path_shown (codes "M1 2L3 4") (whole Ink 5)
line = rw (decimal_digit 1 (omega arith), decimal_digit 2 (omega arith), decimal_digit 3 (omega arith), decimal_digit 4 (omega arith))

-- a path has no filling, and a form no line
path : path_shown (codes "M1 2H3") (whole Ink 5) ≡ record {
  name = codes "path";
  attributes = record { name = codes "d"; value = codes "M1 2H3" } ∷ record { name = codes "fill"; value = codes "none" } ∷ record { name = codes "stroke"; value = codes "#22262a" }
      ∷ record { name = codes "stroke-width"; value = decimal 5 } ∷ record { name = codes "stroke-dasharray"; value = codes "none" } ∷ [];
  text = [];
}
path = refl

path_not-form : path_shown (codes "M1 2H3") (whole Ink 5) ≢ form_shown (codes "M1 2H3") Ink
path_not-form = grind arith

anchor_not-turned : anchor_code Start ≢ anchor_code End
anchor_not-turned = grind arith

words : words_shown 1 2 Middle Ink (codes "node 0") ≡ record {
  name = codes "text";
  attributes = record { name = codes "x"; value = decimal 1 } ∷ record { name = codes "y"; value = decimal 2 } ∷ record { name = codes "text-anchor"; value = codes "middle" }
      ∷ record { name = codes "fill"; value = codes "#22262a" } ∷ [];
  text = codes "node 0";
}
words = refl

heading : heading_shown 1 2 (codes "A run") ≡ record {
  name = codes "text";
  attributes = record { name = codes "x"; value = decimal 1 } ∷ record { name = codes "y"; value = decimal 2 } ∷ record { name = codes "font-size"; value = codes "16" }
      ∷ record { name = codes "font-weight"; value = codes "bold" } ∷ [];
  text = codes "A run";
}
heading = refl

-- attributes and texts stand in the order in which they were given
given : with_given (with_given (note_shown (codes "title") []) (numbered (codes "x") 1)) (numbered (codes "y") 2)
    ≡ record { name = codes "title"; attributes = numbered (codes "x") 1 ∷ numbered (codes "y") 2 ∷ []; text = [] }
given = refl

module _ (first second : Fixed) (least : first.0.now ≡ codes "min") (zero : first.1.now ≡ codes "0") (most : second.0.now ≡ codes "max") (nine : second.1.now ≡ codes "9") where
  all : with_all (note_shown (codes "input") []) (first ∷ second ∷ [])
      ≡ record { name = codes "input"; attributes = record { name = codes "min"; value = codes "0" } ∷ record { name = codes "max"; value = codes "9" } ∷ []; text = [] }
  all = rw (least, zero, most, nine) refl

  all_not-turned : with_all (note_shown (codes "input") []) (first ∷ second ∷ [])
      ≢ record { name = codes "input"; attributes = record { name = codes "max"; value = codes "9" } ∷ record { name = codes "min"; value = codes "0" } ∷ []; text = [] }
  all_not-turned = grind (arith, common_steps, least, most)

text : with_text (note_shown (codes "title") (codes "A ")) (codes "run") ≡ note_shown (codes "title") (codes "A run")
text = refl

text_not-turned : with_text (note_shown (codes "title") (codes "A ")) (codes "run") ≢ note_shown (codes "title") (codes "runA ")
text_not-turned = grind arith

-- ---- their text

-- the four bytes that mean something in XML are escaped, and no other
escapes : escaped (codes "a<b> & \"c\" 'd'") ≡ codes "a&lt;b&gt; &amp; &quot;c&quot; 'd'"
escapes = refl

escapes_not-quote : escaped (codes "\"") ≢ codes "\""
escapes_not-quote = grind arith

starts : start_tag (codes "svg") [] ≡ codes "<svg>"
starts = refl

ends : end_tag (codes "svg") ≡ codes "</svg>"
ends = refl

-- an element inside another, with a text
nests : IsContent (codes "<g><title>1 &lt; 2</title></g>\n")
nests = Element (codes "g") [] (Element (codes "title") [] (Text (codes "1 < 2") Nothing) Nothing) (Text (codes "\n") Nothing)

-- and a start tag that is not closed is no content
no_tag : {written : List ℕ} → IsContent written → written ≢ codes "<"
no_tag Nothing e = grind (arith, e)
no_tag (Text [] rest) e = no_tag rest e
no_tag (Text (byte ∷ more) rest) e = grind (arith, common_steps, e)
no_tag (Element [] [] inside rest) e = grind (arith, e)
no_tag (Element [] (given ∷ others) inside rest) e = grind (arith, e)
no_tag (Element (byte ∷ name) attributes inside rest) e = grind (arith, e)

-- ---- what the code's elements show, and their text

escapes-byte : escaped_byte 38 ≡ codes "&amp;"
escapes-byte = refl

escapes_not-letter : escaped_byte 97 ≡ codes "a"
escapes_not-letter = refl

module _ (a : Attribute) (name : a.name.now ≡ codes "id") (value : string_bytes a.value ≡ codes "<1>") where
  given-id : given_of a ≡ record { name = codes "id"; value = codes "<1>" }
  given-id = rw (name, value) refl

  attribute-id : attribute_text a ≡ codes " id=\"&lt;1&gt;\""
  attribute-id = rw (name, value) refl

module _ (e : CodeElement) (name : e.name.now ≡ codes "title") (none : e.attributes.items ≡ []) (text : string_bytes e.text ≡ codes "a & b") where
  shown-title : shown_of e ≡ note_shown (codes "title") (codes "a & b")
  shown-title = rw (name, none, text) refl

  shown_not-other : shown_of e ≢ note_shown (codes "title") (codes "a")
  shown_not-other same = (let e : ◌≡◌ {A = List ℕ} (codes "a & b") (codes "a") = rw text at (ap (λ (s : Shown). s.text) same) in grind (arith, e))

  element-title : element_text e ≡ codes "<title>a &amp; b</title>\n"
  element-title = rw (name, none, text) refl

  -- the undermost element first
  drawn-one : (canvas : Canvas) → canvas.elements.items ≡ e ∷ [] → drawn canvas ≡ shown_of e ∷ []
  drawn-one canvas one = rw one refl

  drawing-one : (d : Drawing) → d.attributes.items ≡ [] → d.elements.items ≡ e ∷ [] → drawing_text d ≡ codes "<svg>\n<title>a &amp; b</title>\n</svg>\n"
  drawing-one d bare one = rw (bare, one, name, none, text) refl

drawing-none : (d : Drawing) → d.attributes.items ≡ [] → d.elements.items ≡ [] → drawing_text d ≡ codes "<svg>\n</svg>\n"
drawing-none d bare none = rw (bare, none) refl

pen-dashed : (stroke : Stroke) → stroke.colour ≡ Ink → stroke.width.0 ≡ 2 → stroke.dashes.now ≡ codes "4 2" → pen_of stroke ≡ record { colour = Ink; width = 2; dashes = codes "4 2" }
pen-dashed stroke colour width dashes = rw (colour, width, dashes) refl
