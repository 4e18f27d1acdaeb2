-- Which curve is which.
use Rattle.std.specs.Prelude.{ℕ, ◌+◌, ◌*◌, List, [], ◌∷◌, ◌++◌}
use Rattle.svg_drawing.specs.declared.canvas.Anchor.TheVariants.{Start}
use Rattle.svg_drawing.specs.declared.colours.Colour.TheVariants.{Ink}
use Rattle.svg_drawing.specs.Drawn.{Shown, line_shown, words_shown}
use Rattle.settling_plot.specs.declared.figure.PlottedLayer.{PlottedLayer}
use Rattle.settling_plot.specs.declared.figure.PlottedLayer.TheVariants.{Links, Tree, Ring, Served}
use Rattle.settling_plot.specs.Figures.{layer_pen, layer_words, row_of}

-- where a layer's entry begins: the four are side by side, each 160 wide
abbrev pub entry_x : PlottedLayer → ℕ
entry_x layer = 72 + 160 * row_of layer

-- a piece of a layer's curve, and after it what the layer is called
abbrev pub entry_shown : PlottedLayer → List Shown
entry_shown layer =
    line_shown (entry_x layer) 438 (entry_x layer + 28) 438 (layer_pen layer)
    ∷ words_shown (entry_x layer + 34) 442 Start Ink (layer_words layer) ∷ []

abbrev pub legend_shown : List Shown
legend_shown = entry_shown Links ++ (entry_shown Tree ++ (entry_shown Ring ++ entry_shown Served))
