-- How a drawing is written, as XML.
use Rattle.std.specs.Prelude.{ℕ, ◌==◌, if◌then◌else◌, List, [], ◌∷◌, ◌++◌, codes, string_bytes}
use Rattle.std.specs.List.{flat_map}
use Rattle.svg_drawing.specs.declared.element.Attribute.{Attribute}
use Rattle.svg_drawing.specs.declared.element.Element.{Element}
use Rattle.svg_drawing.specs.declared.element.Drawing.{Drawing}
use Rattle.svg_drawing.specs.declared.element.Group.{Group}
use Rattle.svg_drawing.specs.declared.element.GroupedDrawing.{GroupedDrawing}
use Rattle.svg_drawing.specs.declared.element.Document.{Document}

-- a byte as it is written: `<`, `>`, `&` and `"` are replaced by references
abbrev pub escaped_byte : ℕ → List ℕ
escaped_byte byte =
    if byte == 60 then codes "&lt;"
    else if byte == 62 then codes "&gt;"
    else if byte == 38 then codes "&amp;"
    else if byte == 34 then codes "&quot;"
    else byte ∷ []

-- a text as it is written
abbrev pub escaped : List ℕ → List ℕ
escaped text = flat_map escaped_byte text

-- a space, and an attribute
abbrev pub attribute_text : Attribute → List ℕ
attribute_text a = codes " " ++ (a.name.now ++ (codes "=\"" ++ (escaped (string_bytes a.value) ++ codes "\"")))

abbrev pub start_tag : List ℕ → List Attribute → List ℕ
start_tag name attributes = codes "<" ++ (name ++ (flat_map attribute_text attributes ++ codes ">"))

abbrev pub end_tag : List ℕ → List ℕ
end_tag name = codes "</" ++ (name ++ codes ">")

-- an element that holds a text, and a newline
abbrev pub element_text : Element → List ℕ
element_text e = start_tag e.name.now e.attributes.items ++ (escaped (string_bytes e.text) ++ (end_tag e.name.now ++ codes "\n"))

-- an element `svg` that holds the elements
abbrev pub drawing_text : Drawing → List ℕ
drawing_text d =
    start_tag (codes "svg") d.attributes.items ++ (codes "\n" ++ (flat_map element_text d.elements.items ++ (end_tag (codes "svg") ++ codes "\n")))

-- an element with its text, the elements that it holds, each on a line, and a newline
abbrev pub group_text : Group → List ℕ
group_text g =
    start_tag g.element.name.now g.element.attributes.items
    ++ (escaped (string_bytes g.element.text) ++ (flat_map element_text g.inside.items ++ (end_tag g.element.name.now ++ codes "\n")))

-- an element `svg` that holds the groups
abbrev pub scene_text : GroupedDrawing → List ℕ
scene_text s =
    start_tag (codes "svg") s.attributes.items ++ (codes "\n" ++ (flat_map group_text s.groups.items ++ (end_tag (codes "svg") ++ codes "\n")))

-- what comes before any content of a document, so that a browser takes it for HTML
abbrev pub doctype : List ℕ
doctype = codes "<!DOCTYPE html>\n"

-- an element `html` that holds what comes before the drawing, the drawing, and what comes after it
abbrev pub document_content : Document → List ℕ
document_content d =
    start_tag (codes "html") [] ++ (codes "\n" ++ (flat_map group_text d.before.items
    ++ (scene_text d.scene ++ (flat_map group_text d.after.items ++ (end_tag (codes "html") ++ codes "\n")))))

abbrev pub document_text : Document → List ℕ
document_text d = doctype ++ document_content d
