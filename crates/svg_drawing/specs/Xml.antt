-- Texts whose tags nest.
use Rattle.std.specs.Prelude.{◌≡◌, ℕ, List, [], ◌++◌}
use Rattle.svg_drawing.specs.declared.element.Attribute.{Attribute}
use Rattle.svg_drawing.specs.Spelling.{escaped, start_tag, end_tag, doctype}

-- What may be inside an element: nothing; an escaped text, and then more content; or an element
-- whose start tag and end tag have the same name, with content inside, and then more content.
pub data IsContent : List ℕ → Type 0 where
  Nothing : IsContent []
  Text : (text : List ℕ) {rest : List ℕ} → IsContent rest → IsContent (escaped text ++ rest)
  Element : (name : List ℕ) (attributes : List Attribute) {inside rest : List ℕ}
      → IsContent inside → IsContent rest → IsContent (start_tag name attributes ++ (inside ++ (end_tag name ++ rest)))

-- an HTML document: its first line, and content
abbrev pub IsDocument : List ℕ → Type 0
IsDocument text = (content : List ℕ) × (text ≡ doctype ++ content) × IsContent content
