-- What is plotted.
use Rattle.std.specs.Prelude.{ℕ, max, List, codes}
use Rattle.svg_drawing.specs.Drawn.{Pen}
use Rattle.svg_drawing.specs.declared.colours.Colour.TheVariants.{Sky, Green, Purple, Vermilion}
use Rattle.settling_plot.specs.declared.figure.Figure.{Figure}
use Rattle.settling_plot.specs.declared.figure.PlottedLayer.{PlottedLayer}
use Rattle.settling_plot.specs.declared.figure.PlottedLayer.TheVariants.{Links, Tree, Ring, Served}

-- what the legend calls a layer
abbrev pub layer_words : PlottedLayer → List ℕ
layer_words Links = codes "links stable"
layer_words Tree = codes "tree reached"
layer_words Ring = codes "token ring good"
layer_words Served = codes "network serves"

-- the line of a layer's curve: no two have the same colour, nor the same dashes
abbrev pub layer_pen : PlottedLayer → Pen
layer_pen Links = record { colour = Sky; width = 2; dashes = codes "none" }
layer_pen Tree = record { colour = Green; width = 2; dashes = codes "9 3" }
layer_pen Ring = record { colour = Purple; width = 2; dashes = codes "5 2" }
layer_pen Served = record { colour = Vermilion; width = 2; dashes = codes "2 2" }

-- a layer's place among the four, from below
abbrev pub row_of : PlottedLayer → ℕ
row_of Links = 0
row_of Tree = 1
row_of Ring = 2
row_of Served = 3

-- the greatest of the four bounds
abbrev pub last_bound : Figure → ℕ
last_bound f = max (max f.links.bound f.tree.bound) (max f.ring.bound f.served.bound)
