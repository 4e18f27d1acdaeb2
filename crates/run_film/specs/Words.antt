-- Words in a film.
use Rattle.std.specs.Prelude.{ℕ, List, [], ◌∷◌, codes}
use Rattle.svg_drawing.specs.Drawn.{Shown as Drawn, numbered}
use Rattle.svg_drawing.specs.Grouped.{Grouped}
use Rattle.svg_drawing.specs.declared.canvas.Point.{Point}
use Rattle.run_film.specs.Tracks.{given}

-- a text whose left end stands at a place
abbrev pub words_shown : Point → List ℕ → Drawn
words_shown at text = record {
  name = codes "text";
  attributes = numbered (codes "x") at.x.0 ∷ numbered (codes "y") at.y.0 ∷ given (codes "class") (codes "ink") ∷ given (codes "fill") (codes "#22262a") ∷ [];
  text = text;
}

-- an element alone
abbrev pub alone : Drawn → Grouped
alone element = record { element = element; inside = [] }
