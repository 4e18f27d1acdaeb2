-- What has settled, as four thin lanes below the picture.
use Rattle.std.specs.Prelude.{ℕ, ◌+◌, ◌-◌, ◌*◌, ◌/◌, if◌then◌else◌, max, min, List, [], ◌∷◌, ◌++◌, codes, decimal, map}
use Rattle.run_recording.specs.layers.declared.whole.Layers.{Layers}
use Rattle.svg_drawing.specs.declared.canvas.Anchor.TheVariants.{End}
use Rattle.svg_drawing.specs.declared.colours.Colour.{Colour}
use Rattle.svg_drawing.specs.declared.colours.Colour.TheVariants.{Pale, Ink, Sky, Green, Purple, Vermilion}
use Rattle.svg_drawing.specs.Drawn.{Shown, form_shown, rect_shown, words_shown}
use Rattle.svg_drawing.specs.Lengths.{px}
use Rattle.run_picture.specs.declared.layout.page.Page.{Page}
use Rattle.run_picture.specs.declared.layout.settled.Layer.{Layer}
use Rattle.run_picture.specs.declared.layout.settled.Layer.TheVariants.{Links, Tree, Ring, Loans}
use Rattle.run_picture.specs.Added.{over_each}
use Rattle.run_picture.specs.Page.{ground_of, right_of, x_of}

-- the name to the left of a layer's lane
abbrev pub lane_words : Layer → List ℕ
lane_words Links = codes "links"
lane_words Tree = codes "tree"
lane_words Ring = codes "ring"
lane_words Loans = codes "loans"

abbrev pub colour_of : Layer → Colour
colour_of Links = Sky
colour_of Tree = Green
colour_of Ring = Purple
colour_of Loans = Vermilion

-- a layer's place among the four, from the top
abbrev pub row_of : Layer → ℕ
row_of Links = 0
row_of Tree = 1
row_of Ring = 2
row_of Loans = 3

-- the height of a lane if a part of its layer holds: 8 if all of it does
abbrev pub share : ℕ → ℕ → ℕ
share part all = min (min part 1000000 * 8 / max all 1) 8

-- How high a layer's lane is: the links by the share that is stable; the tree by the stage up to which
-- the distances are right, and 8 only if it is reached; the ring and the loans 8 or nothing.
abbrev pub level_in : Layer → Layers → ℕ
level_in Links l = share l.stable l.links
level_in Tree l = if l.tree then 8 else min (share l.stage l.last_stage) 7
level_in Ring l = if l.ring then 8 else 0
level_in Loans l = if l.loans then 8 else 0

-- the lower end of a layer's lane: below the axis of events, 14 for each lane
abbrev pub base_of : Page → Layer → ℕ
base_of page layer = px (px (ground_of page + 80) + 14 * row_of layer)

-- in a column the outline goes up or down to the level, and on to the column's right end
abbrev pub settled_step : Page → ℕ → ℕ → ℕ → List ℕ
settled_step page base place level =
    codes "V" ++ (decimal (base - level) ++ (codes "H" ++ decimal (x_of page (place + 1))))

abbrev pub settled_from : Page → ℕ → ℕ → List ℕ → List ℕ
settled_from page base = over_each (settled_step page base)

-- the outline of a lane: from its lower left corner along the levels, and down again
abbrev pub settled_steps : Page → ℕ → List ℕ → List ℕ
settled_steps page base levels =
    codes "M" ++ (decimal page.left.0 ++ (codes " " ++ (decimal base
    ++ (settled_from page base 0 levels ++ (codes "V" ++ (decimal base ++ codes "z"))))))

-- the lane of a layer: its ground, over that where the layer holds, and to the left its name
abbrev pub settled_lane_shown : Page → Layer → List Layers → List Shown
settled_lane_shown page layer states =
    rect_shown page.left.0 (base_of page layer - 8) (right_of page - page.left.0) 8 Pale
    ∷ form_shown (settled_steps page (base_of page layer) (map (level_in layer) states)) (colour_of layer)
    ∷ words_shown (page.left.0 - 8) (base_of page layer) End Ink (lane_words layer) ∷ []

-- the four lanes, one below the other
abbrev pub all_lanes_shown : Page → List Layers → List Shown
all_lanes_shown page states =
    settled_lane_shown page Links states
    ++ (settled_lane_shown page Tree states ++ (settled_lane_shown page Ring states ++ settled_lane_shown page Loans states))
