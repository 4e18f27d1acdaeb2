-- Small examples of places, counts and curves, and some that look like them and are none.
use Rattle.std.proofs.Common.{◌≡◌, ◌≢◌, ◌*◌, [], ◌∷◌, ◌++◌, codes, decimal, refl, arith}
use Rattle.std.proofs.lemmas.Grind.{common_steps}
use Rattle.svg_drawing.specs.declared.colours.Colour.TheVariants.{Green}
use Rattle.svg_drawing.specs.Drawn.{whole}
use Rattle.settling_plot.specs.declared.curves.Scale.{Scale}
use Rattle.settling_plot.specs.declared.figure.PlottedLayer.{PlottedLayer}
use Rattle.settling_plot.specs.declared.figure.PlottedLayer.TheVariants.{Links, Tree, Served}
use Rattle.settling_plot.specs.Axes.{axis_to, height_of, place_of, powers_below, right_of, x_of}
use Rattle.settling_plot.specs.Curves.{corner_in}
use Rattle.settling_plot.specs.Figures.{layer_pen}
use Rattle.settling_plot.specs.Legend.{entry_x}
use Rattle.settling_plot.specs.Limits.{label_of, thin_pen}
use Rattle.settling_plot.specs.Tallies.{IsTally, runs_at, runs_by}

-- ---- the axis

-- 1, 2, 4, 8, 16 and 32 are below 35, and 32 is not below itself
below : powers_below 35 32 ≡ 6
below = refl

below_not-itself : powers_below 32 32 ≡ 5
below_not-itself = refl

-- up to 64 there are seven steps
to_bound : axis_to 35 ≡ record { doublings = 6; step = 91 }
to_bound = refl

-- each doubling is a step, and 3 is halfway from 2 to 4
places : (place_of 80 6 0 ≡ 0) × (place_of 80 6 1 ≡ 80) × (place_of 80 6 2 ≡ 160) × (place_of 80 6 3 ≡ 200) × (place_of 80 6 4 ≡ 240) × (place_of 80 6 64 ≡ 560)
places = (refl, refl, refl, refl, refl, refl)

places_not-even : place_of 80 6 3 ≢ 3 * 80
places_not-even = grind arith

-- of four runs none, two and four
heights : (height_of 4 0 ≡ 378) × (height_of 4 2 ≡ 258) × (height_of 4 4 ≡ 138)
heights = (refl, refl, refl)

heights_not-down : height_of 4 1 ≢ 438
heights_not-down = grind arith

-- ---- counts

-- of three runs two have 1, and all have 3 or less
at : runs_at (1 ∷ 3 ∷ 1 ∷ []) 1 ≡ 2
at = refl

by : (runs_by (1 ∷ 3 ∷ 1 ∷ []) 0 ≡ 0) × (runs_by (1 ∷ 3 ∷ 1 ∷ []) 2 ≡ 2) × (runs_by (1 ∷ 3 ∷ 1 ∷ []) 3 ≡ 3)
by = (refl, refl, refl)

by_not-at : runs_by (1 ∷ 3 ∷ 1 ∷ []) 3 ≢ runs_at (1 ∷ 3 ∷ 1 ∷ []) 3
by_not-at = grind arith

-- a tally shows the run that has 1
tally_not-empty : ¬ IsTally (1 ∷ []) 1 (0 ∷ 0 ∷ [])
tally_not-empty t = let one = t.counts 1 (omega arith) in grind (arith, one)

-- ---- curves

-- an axis from 0 over 1 and 2 to 4, under two runs
abbrev small : Scale
small = record { axis = record { doublings = 2; step = 100 }; runs = 2; last = 4 }

-- one run has 1, and the other 3
first_corner : corner_in small (1 ∷ 3 ∷ []) 1 ≡ codes "H" ++ (decimal 172 ++ (codes "V" ++ decimal 258))
first_corner = refl

last_corner : corner_in small (1 ∷ 3 ∷ []) 3 ≡ codes "H" ++ (decimal 322 ++ (codes "V" ++ decimal 138))
last_corner = refl

-- none has 2, so there is no corner
no_corner : corner_in small (1 ∷ 3 ∷ []) 2 ≡ []
no_corner = refl

axis_ends : (right_of small.axis ≡ 372) × (x_of small.axis 4 ≡ 372)
axis_ends = (refl, refl)

-- ---- layers

-- no two layers have one colour, nor the same dashes
colours_differ : (a b : PlottedLayer) → (layer_pen a).colour ≡ (layer_pen b).colour → a ≡ b
colours_differ a b same = grind (arith, common_steps)

dashes_differ : (a b : PlottedLayer) → (layer_pen a).dashes ≡ (layer_pen b).dashes → a ≡ b
dashes_differ a b same = grind (arith, common_steps)

rows : (label_of Links ≡ 124) × (label_of Served ≡ 76)
rows = (refl, refl)

thin_tree : thin_pen Tree ≡ whole Green 1
thin_tree = refl

entries : (entry_x Links ≡ 72) × (entry_x Served ≡ 552)
entries = (refl, refl)
