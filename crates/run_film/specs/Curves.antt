-- The cursor below the graph.
use Rattle.std.specs.Prelude.{◌≡◌, ℕ, ◌+◌, ◌-◌, List, [], ◌∷◌, ◌++◌, codes, decimal}
use Rattle.svg_drawing.specs.Drawn.{numbered}
use Rattle.svg_drawing.specs.Grouped.{Grouped}
use Rattle.svg_drawing.specs.Lengths.{px}
use Rattle.run_film.specs.declared.pace.FilmPace.{FilmPace}
use Rattle.run_film.specs.declared.stage.Stage.{Stage}
use Rattle.run_film.specs.Tracks.{given, repeated_shown}

-- a bar at the right end of the curves, which goes from their left end to their right end while the
-- film plays
abbrev pub cursor_shown : Stage → FilmPace → Grouped
cursor_shown stage pace = record {
  element = record {
    name = codes "rect";
    attributes = given (codes "class") (codes "ink") ∷ numbered (codes "x") (stage.width.0 - 40) ∷ numbered (codes "y") (px (stage.floor.0 + 40))
        ∷ given (codes "width") (codes "2") ∷ numbered (codes "height") 60 ∷ given (codes "fill") (codes "#22262a") ∷ [];
    text = [];
  };
  inside = repeated_shown (record {
    name = codes "animate";
    attributes = given (codes "attributeName") (codes "x") ∷ given (codes "values") (codes "40;" ++ decimal (stage.width.0 - 40)) ∷ [];
    text = [];
  }) pace ∷ [];
}

-- the cursor is drawn over all else that is below the graph
abbrev pub IsCounted : List Grouped → Stage → FilmPace → Type 0
IsCounted groups stage pace = (front : List Grouped) × (groups ≡ front ++ (cursor_shown stage pace ∷ []))
