-- The colours of a picture.
use Rattle.std.specs.Prelude.{ℕ, List, codes}
use Rattle.svg_drawing.specs.declared.colours.Colour.{Colour}
use Rattle.svg_drawing.specs.declared.colours.Colour.TheVariants.{Pale, Grey, Gold, Red, Ink, Blue, Faint, Paper, Sky, Green, Purple, Vermilion}

-- Colours as SVG writes them. Those of the marks grow darker in the order pale, gold, grey, red, so
-- that a reader can distinguish them without any colour, too. The last four are from the palette of
-- M. Okabe and K. Ito, "Color Universal Design" (2008), which the colour-blind can distinguish.
abbrev pub colour_code : Colour → List ℕ
colour_code Pale = codes "#e6edf2"
colour_code Gold = codes "#f2b705"
colour_code Grey = codes "#8a8f94"
colour_code Red = codes "#a3142e"
colour_code Ink = codes "#22262a"
colour_code Blue = codes "#0b5394"
colour_code Faint = codes "#b4bac0"
colour_code Paper = codes "#ffffff"
colour_code Sky = codes "#56b4e9"
colour_code Green = codes "#009e73"
colour_code Purple = codes "#cc79a7"
colour_code Vermilion = codes "#d55e00"
