-- What the colours and signs of a picture mean, in three lines above the lanes.
use Rattle.std.specs.Prelude.{ℕ, ◌+◌, ◌-◌, ◌*◌, ◌/◌, List, [], ◌∷◌, ◌++◌, length, codes, decimal}
use Rattle.svg_drawing.specs.declared.canvas.Anchor.TheVariants.{Start}
use Rattle.svg_drawing.specs.declared.colours.Colour.TheVariants.{Pale, Grey, Gold, Red, Ink, Blue, Faint}
use Rattle.run_picture.specs.declared.layout.legend.Sign.{Sign}
use Rattle.run_picture.specs.declared.layout.legend.Sign.TheVariants.{Bar, Bolt, Upright, Edge}
use Rattle.svg_drawing.specs.Drawn.{Shown, rect_shown, form_shown, line_shown, words_shown, whole}
use Rattle.svg_drawing.specs.Lengths.{px}
use Rattle.run_picture.specs.Words.{column_words}

-- a sign, from a place on its baseline: a bar of a lane, the mark of damage, a line as it stands over
-- or through the lanes, or a line as it joins two nodes
abbrev pub sign_shown : ℕ → ℕ → Sign → Shown
sign_shown x y (Bar colour height) = rect_shown x (y - 4 - height / 2) 16 height colour
sign_shown x y Bolt =
    form_shown (codes "M" ++ (decimal (px (x + 6)) ++ (codes " " ++ (decimal (y - 10) ++ codes "l4 0l-2 5l3 0l-6 9l2 -6l-3 0z")))) Red
sign_shown x y (Upright colour width) = line_shown (px (x + 8)) (y - 10) (px (x + 8)) y (whole colour width)
sign_shown x y (Edge colour width) = line_shown x (y - 4) (px (x + 16)) (y - 4) (whole colour width)

-- how far to the right of a sign's place its meaning is written
abbrev pub room_of : Sign → ℕ
room_of (Upright colour width) = 16
room_of _ = 22

-- where the next sign stands, after a meaning: 6 for each letter, and 16
abbrev pub later : ℕ → List ℕ → ℕ
later x meaning = px (px (x + px (6 * length meaning)) + 16)

-- a sign, and after it what it means
pub record Meaning : Type 0 where
  pub sign : Sign
  pub words : List ℕ

-- signs with their meanings, one after the other from a place on
abbrev pub meanings_shown : ℕ → ℕ → List Meaning → List Shown
meanings_shown x y [] = []
meanings_shown x y (m ∷ meanings) =
    sign_shown x y m.sign ∷ words_shown (px (x + room_of m.sign)) y Start Ink m.words
    ∷ meanings_shown (later (px (x + room_of m.sign)) m.words) y meanings

-- what the colours of the lanes mean
abbrev pub colour_meanings : List Meaning
colour_meanings =
    record { sign = Bar Pale 12; words = codes "distance and parent true" }
    ∷ record { sign = Bar Grey 6; words = codes "distance or parent wrong" }
    ∷ record { sign = Bar Gold 9; words = codes "privileged" }
    ∷ record { sign = Bar Red 12; words = codes "lends the lock, to the ticket written" } ∷ []

-- what the signs above the lanes mean, and the edges beside them
abbrev pub sign_meanings : List Meaning
sign_meanings =
    record { sign = Bolt; words = codes "damage" } ∷ record { sign = Upright Ink 1; words = codes "a sweep ends" }
    ∷ record { sign = Upright Blue 2; words = codes "the guarantee holds from here" }
    ∷ record { sign = Edge Ink 3; words = codes "edge of the tree" } ∷ record { sign = Edge Faint 1; words = codes "other edge" } ∷ []

-- the legend, if a column shows `width` moments
abbrev pub legend_shown : ℕ → List Shown
legend_shown width =
    meanings_shown 16 68 colour_meanings
    ++ (meanings_shown 16 86 sign_meanings ++ words_shown 16 104 Start Ink (column_words width) ∷ [])
