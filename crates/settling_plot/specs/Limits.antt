-- The proved bounds, as upright lines.
use Rattle.std.specs.Prelude.{ℕ, ◌-◌, ◌*◌, List, [], ◌∷◌, ◌++◌, codes, decimal}
use Rattle.svg_drawing.specs.declared.canvas.Anchor.TheVariants.{End}
use Rattle.svg_drawing.specs.declared.colours.Colour.TheVariants.{Ink}
use Rattle.svg_drawing.specs.Drawn.{Pen, Shown, line_shown, words_shown, whole}
use Rattle.settling_plot.specs.declared.axis.Axis.{Axis}
use Rattle.settling_plot.specs.declared.figure.Figure.{Figure}
use Rattle.settling_plot.specs.declared.figure.PlottedLayer.{PlottedLayer}
use Rattle.settling_plot.specs.declared.figure.PlottedLayer.TheVariants.{Links, Tree, Ring, Served}
use Rattle.settling_plot.specs.Axes.{x_of}
use Rattle.settling_plot.specs.Figures.{layer_pen, row_of}

-- the baseline of the words at a layer's bound: the layers' rows are above the curves, each 16 high
abbrev pub label_of : PlottedLayer → ℕ
label_of layer = 124 - 16 * row_of layer

-- a thin line in the colour of the layer's curve
abbrev pub thin_pen : PlottedLayer → Pen
thin_pen layer = whole (layer_pen layer).colour 1

abbrev pub limit_words : ℕ → List ℕ
limit_words bound = codes "proved by " ++ decimal bound

-- the bound of a layer: a line from the axis up to the layer's row, and in that row, left of the
-- line, what the bound is
abbrev pub limit_shown : Axis → PlottedLayer → ℕ → List Shown
limit_shown axis layer bound =
    line_shown (x_of axis bound) 378 (x_of axis bound) (label_of layer - 10) (thin_pen layer)
    ∷ words_shown (x_of axis bound - 4) (label_of layer) End Ink (limit_words bound) ∷ []

-- the bounds of the four layers, the lowest first
abbrev pub limits_shown : Axis → Figure → List Shown
limits_shown axis f =
    limit_shown axis Links f.links.bound
    ++ (limit_shown axis Tree f.tree.bound ++ (limit_shown axis Ring f.ring.bound ++ limit_shown axis Served f.served.bound))
