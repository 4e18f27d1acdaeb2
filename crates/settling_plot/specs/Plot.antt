-- The whole plot.
use Rattle.std.specs.Prelude.{◌≡◌, ℕ, List, [], ◌∷◌, ◌++◌, map, codes}
use Rattle.svg_drawing.specs.declared.element.Drawing.{Drawing}
use Rattle.svg_drawing.specs.Drawn.{Given, Shown, given_of, shown_of, numbered}
use Rattle.svg_drawing.specs.Spelling.{drawing_text}
use Rattle.settling_plot.specs.declared.axis.Axis.{Axis}
use Rattle.settling_plot.specs.declared.figure.Figure.{Figure}
use Rattle.settling_plot.specs.Axes.{axis_to}
use Rattle.settling_plot.specs.Curves.{curves_shown}
use Rattle.settling_plot.specs.Figures.{last_bound}
use Rattle.settling_plot.specs.Ground.{ground_shown}
use Rattle.settling_plot.specs.Heading.{heading_shown}
use Rattle.settling_plot.specs.Legend.{legend_shown}
use Rattle.settling_plot.specs.Limits.{limits_shown}

-- what the element that holds the page says: that it is SVG 1.1, how large the page is, and which
-- font its texts have
abbrev pub page_attributes : List Given
page_attributes =
    record { name = codes "xmlns"; value = codes "http://www.w3.org/2000/svg" } ∷ record { name = codes "version"; value = codes "1.1" }
    ∷ numbered (codes "width") 760 ∷ numbered (codes "height") 460 ∷ record { name = codes "viewBox"; value = codes "0 0 760 460" }
    ∷ record { name = codes "font-family"; value = codes "sans-serif" } ∷ record { name = codes "font-size"; value = codes "11" } ∷ []

-- what a plot shows over an axis, each part over those before it: what is above the curves, what
-- they stand on, the bounds, the curves, and which curve is which
abbrev pub plot_over : Axis → Figure → List Shown
plot_over axis f = heading_shown f ++ (ground_shown axis ++ (limits_shown axis f ++ (curves_shown axis f ++ legend_shown)))

-- the drawing is the plot of a figure: its axis goes up to the greatest of the bounds
pub record IsPlot (f : Figure) (drawing : Drawing) : Type 0 where
  pub attributes : map given_of drawing.attributes.items ≡ page_attributes
  pub elements : map shown_of drawing.elements.items ≡ plot_over (axis_to (last_bound f)) f

-- the text is that of a drawing that is the plot of a figure
pub record IsPlotted (f : Figure) (text : List ℕ) : Type 0 where
  pub drawing : Drawing
  pub is_plot : IsPlot f drawing
  pub is_text : text ≡ drawing_text drawing
