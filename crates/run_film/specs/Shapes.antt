-- What symbols are made of.
use Rattle.std.specs.Prelude.{ℕ, List, [], ◌∷◌, codes}
use Rattle.svg_drawing.specs.Drawn.{Shown as Drawn, numbered}
use Rattle.svg_drawing.specs.declared.canvas.Point.{Point}
use Rattle.run_film.specs.Tracks.{given}

-- a symbol, which is drawn wherever it is used
abbrev pub symbol_shown : List ℕ → Drawn
symbol_shown name = record {
  name = codes "symbol";
  attributes = given (codes "id") name ∷ given (codes "overflow") (codes "visible") ∷ [];
  text = [];
}

-- a circle round a place
abbrev pub circle_shown : Point → ℕ → List ℕ → List ℕ → Drawn
circle_shown at radius class fill = record {
  name = codes "circle";
  attributes = numbered (codes "cx") at.x.0 ∷ numbered (codes "cy") at.y.0 ∷ numbered (codes "r") radius ∷ given (codes "class") class
      ∷ given (codes "fill") fill ∷ given (codes "stroke") (codes "#22262a") ∷ [];
  text = [];
}

-- a form without a fill
abbrev pub outline_shown : List ℕ → List ℕ → List ℕ → ℕ → Drawn
outline_shown steps class colour width = record {
  name = codes "path";
  attributes = given (codes "d") steps ∷ given (codes "class") class ∷ given (codes "fill") (codes "none") ∷ given (codes "stroke") colour
      ∷ numbered (codes "stroke-width") width ∷ [];
  text = [];
}

-- a filled form
abbrev pub form_shown : List ℕ → List ℕ → List ℕ → Drawn
form_shown steps class colour = record {
  name = codes "path";
  attributes = given (codes "d") steps ∷ given (codes "class") class ∷ given (codes "fill") colour ∷ [];
  text = [];
}
