-- What comes first in a film.
use Rattle.std.specs.Prelude.{◌≡◌, ℕ, ◌+◌, if◌then◌else◌, List, [], ◌∷◌, ◌++◌, codes, decimal}
use Rattle.svg_drawing.specs.Drawn.{Given, Shown as Drawn, numbered, note_shown}
use Rattle.svg_drawing.specs.declared.px.Px.{Px}
use Rattle.svg_drawing.specs.Grouped.{Grouped}
use Rattle.svg_drawing.specs.Lengths.{px}
use Rattle.run_film.specs.declared.head.FilmHead.{FilmHead}
use Rattle.run_film.specs.declared.stage.Stage.{Stage}
use Rattle.run_film.specs.Tracks.{given}
use Rattle.run_film.specs.Words.{alone, words_shown}

-- the title of a film
abbrev pub title_text : FilmHead → List ℕ
title_text said = codes "A run of a lock on " ++ (decimal said.nodes ++ codes " nodes, as a film")

-- what the run was
abbrev pub said_text : FilmHead → List ℕ
said_text said = decimal said.events ++ (codes " events, " ++ (decimal said.refused ++ codes " lines refused"))

-- how many stills there are, and that stretches are shown by their last state
abbrev pub stills_text : FilmHead → List ℕ
stills_text said =
    decimal said.stills
    ++ (if said.crowded then codes " stills, fewer than moments that count: each is the last of a stretch"
    else codes " stills; calm stretches are shown by their last moment")

-- a line of text
abbrev pub line_shown : Px → List ℕ → Drawn
line_shown height text = words_shown (record { x = record { 0 = 16 }; y = height }) text

-- a film has its title
abbrev pub IsHeaded : List Grouped → FilmHead → Type 0
IsHeaded groups said = (front : List Grouped) × (groups ≡ front ++ (alone (note_shown (codes "title") (title_text said)) ∷ []))

-- the width and the height of a film
abbrev pub attributes_of : Stage → List Given
attributes_of stage =
    given (codes "xmlns") (codes "http://www.w3.org/2000/svg") ∷ numbered (codes "width") stage.width.0 ∷ numbered (codes "height") (px (stage.floor.0 + 150))
    ∷ given (codes "viewBox") (codes "0 0 " ++ (decimal stage.width.0 ++ (codes " " ++ decimal (px (stage.floor.0 + 150)))))
    ∷ given (codes "font-family") (codes "sans-serif") ∷ given (codes "font-size") (codes "13") ∷ []
