-- What the curves stand on: the levels of the shares, and the axis of sweeps.
use Rattle.std.specs.Prelude.{ℕ, ◌+◌, ◌*◌, ◌^◌, List, [], ◌∷◌, ◌++◌, codes, decimal}
use Rattle.std.specs.List.{flat_map, range_with_len}
use Rattle.svg_drawing.specs.declared.canvas.Anchor.TheVariants.{Start, Middle, End}
use Rattle.svg_drawing.specs.declared.colours.Colour.TheVariants.{Ink, Faint}
use Rattle.svg_drawing.specs.Drawn.{Shown, line_shown, words_shown, whole}
use Rattle.svg_drawing.specs.Lengths.{px}
use Rattle.settling_plot.specs.declared.axis.Axis.{Axis}
use Rattle.settling_plot.specs.Axes.{height_of, right_of, tick_of}

-- the share that this many quarters make
abbrev pub percent_words : ℕ → List ℕ
percent_words quarter = decimal (25 * quarter) ++ codes " %"

-- the line at a number of quarters of all runs, and its share to the left of it
abbrev pub level_shown : Axis → ℕ → List Shown
level_shown axis quarter =
    line_shown 72 (height_of 4 quarter) (right_of axis) (height_of 4 quarter) (whole Faint 1)
    ∷ words_shown 64 (px (height_of 4 quarter + 4)) End Ink (percent_words quarter) ∷ []

-- the lines for zero to four quarters
abbrev pub levels_shown : Axis → List Shown
levels_shown axis = flat_map (level_shown axis) (range_with_len 0 5)

abbrev pub tick_words : ℕ → List ℕ
tick_words number = decimal number

-- a number below the axis of sweeps, and a short line above it
abbrev pub tick_shown : ℕ → ℕ → List Shown
tick_shown x number = line_shown x 378 x 384 (whole Ink 1) ∷ words_shown x 398 Middle Ink (tick_words number) ∷ []

-- the number that the axis reaches after this many doublings
abbrev pub power_shown : Axis → ℕ → List Shown
power_shown axis doublings = tick_shown (tick_of axis doublings) (2 ^ doublings)

-- 0, and each power of two that is on the axis
abbrev pub ticks_shown : Axis → List Shown
ticks_shown axis = tick_shown 72 0 ++ flat_map (power_shown axis) (range_with_len 0 (axis.doublings + 1))

-- what the axes count
abbrev pub titles_shown : Axis → List Shown
titles_shown axis =
    words_shown 16 124 Start Ink (codes "share of runs")
    ∷ words_shown (right_of axis) 416 End Ink (codes "sweeps since the start; from 1 on, each step doubles the number") ∷ []

abbrev pub ground_shown : Axis → List Shown
ground_shown axis = levels_shown axis ++ (ticks_shown axis ++ titles_shown axis)
