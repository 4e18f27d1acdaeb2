-- What is above the curves.
use Rattle.std.specs.Prelude.{ℕ, List, [], ◌∷◌, ◌++◌, length, codes, decimal}
use Rattle.svg_drawing.specs.declared.canvas.Anchor.TheVariants.{Start}
use Rattle.svg_drawing.specs.declared.colours.Colour.TheVariants.{Ink, Paper}
use Rattle.svg_drawing.specs.Drawn as drawn
use Rattle.svg_drawing.specs.Drawn.{Shown, note_shown, rect_shown, words_shown}
use Rattle.settling_plot.specs.declared.figure.Figure.{Figure}

abbrev pub title_words : List ℕ
title_words = codes "Sweeps until each layer stands for good"

-- how many runs there were, and what they started from
abbrev pub run_words : ℕ → ℕ → ℕ → List ℕ
run_words runs nodes seed =
    decimal runs ++ (codes " runs of " ++ (decimal nodes ++ (codes " nodes from scrambled worlds, seeds from " ++ (decimal seed ++ codes " on; "))))

-- how many of them served by the bound
abbrev pub served_words : ℕ → ℕ → List ℕ
served_words served bound = decimal served ++ (codes " of them served by sweep " ++ decimal bound)

abbrev pub said_words : Figure → List ℕ
said_words f = run_words f.runs f.nodes f.seed ++ served_words (length f.served.sweeps.items) f.served.bound

-- the title and the description, which are not seen; the white ground of the page; and over it both
-- of them again
abbrev pub heading_shown : Figure → List Shown
heading_shown f =
    note_shown (codes "title") title_words ∷ note_shown (codes "desc") (said_words f) ∷ rect_shown 0 0 760 460 Paper
    ∷ drawn.heading_shown 16 26 title_words ∷ words_shown 16 46 Start Ink (said_words f) ∷ []
