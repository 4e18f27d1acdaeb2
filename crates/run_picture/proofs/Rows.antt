-- Small examples, by computation: some that hold, and some that do not.
use Rattle.std.proofs.Common.{◌≡◌, ℕ, List, [], ◌∷◌, Some, length, codes, decimal, refl, true, false, arith}
use Rattle.std.specs.List.{flat_map}
use Rattle.std.proofs.lemmas.Grind.{common_steps}
use Rattle.topology.specs.Network.{bound_of}
use Rattle.topology.specs.Eccentricity.{sharp_of}
use Rattle.run_picture.specs.Page.{column_width, lane_height}
use Rattle.run_picture.specs.Curves.{node_height, level_pen}
use Rattle.run_picture.specs.Words.{column_words}
use Rattle.run_picture.specs.Ruler.{ended_in, guarantee_shown, guarantees_over}
use Rattle.run_picture.specs.Axis.{round_number, axis_numbers, number_shown}
use Rattle.svg_drawing.specs.Drawn.{Shown, line_shown, words_shown, whole}
use Rattle.run_picture.specs.Lanes.{bar, bars_shown, ticket_in, ticket_shown, AreLanes}
use Rattle.run_picture.specs.Lanes.AreLanes.{NoLane, Lane}
use Rattle.svg_drawing.specs.declared.canvas.Anchor.TheVariants.{Middle}
use Rattle.svg_drawing.specs.declared.colours.Colour.TheVariants.{Ink, Red, Faint, Paper}
use Rattle.run_picture.specs.declared.layout.page.Page.{Page}
use Rattle.run_recording.specs.declared.column.Column.{Column}
use Rattle.run_recording.specs.declared.mark.Mark.TheVariants.{Privileged, Lending}
use Rattle.run_recording.proofs.Rows.{run_of, square}

-- ---- where things stand

nine_columns : column_width 9 ≡ 24
nine_columns = refl

most_columns : column_width 1200 ≡ 1
most_columns = refl

two_lanes : lane_height 2 ≡ 32
two_lanes = refl

most_lanes : lane_height 64 ≡ 12
most_lanes = refl

two_nodes_high : node_height 2 ≡ 24
two_nodes_high = refl

-- ---- in words

one_event : column_words 1 ≡ codes "a column is 1 event"
one_event = refl

-- what the headline of the square says after `sweeps to recover` and `sharp`
square_bounds : (bound_of square ≡ 461) × (sharp_of square ≡ 71)
square_bounds = (refl, refl)

-- ---- sweeps

abbrev with_sweeps : ℕ → Column
with_sweeps sweeps = record { marks = []; privileged = 0; lending = 0; sweeps = sweeps; damaged = false; sharp = false; bound = false }

-- five before, two, none and three
ten_sweeps : ended_in 5 (with_sweeps 2 ∷ with_sweeps 0 ∷ with_sweeps 3 ∷ []) ≡ 10
ten_sweeps = refl

-- ---- the axis

fifth_round : round_number 4 ≡ 20
fifth_round = refl

-- six columns of 128 moments: 500 stands at the fourth, and 1000 at none
six_columns : axis_numbers 6 0 128 500 ≡ record { place = 0; event = 0 } ∷ record { place = 3; event = 500 } ∷ []
six_columns = refl

-- the first number is a multiple of the step, where the first moment is none
begun_later : axis_numbers 100 130 1 50 ≡ record { place = 20; event = 150 } ∷ record { place = 70; event = 200 } ∷ []
begun_later = refl

-- ---- lanes

-- nine columns, 24 wide, and two lanes, 32 high
abbrev nine_wide : Page
nine_wide = record {
  left = record { 0 = 142 };
  column = record { 0 = 24 };
  columns = 9;
  lane = record { 0 = 32 };
  lanes = 2;
  indent = record { 0 = 22 };
}

-- a node lends to ticket 5 in the last two columns: they begin at 310, and their middle is at 334
ticket_row : ticket_in nine_wide 192 (run_of 7 2 (Lending 5)) (Some (codes "5")) ≡ words_shown 334 196 Middle Paper (codes "5") ∷ []
ticket_row = refl

-- where columns are 1 wide, two of them have no room for it
no_room : ticket_in (record nine_wide { column = record { 0 = 1 } }) 192 (run_of 7 2 (Lending 5)) (Some (codes "5")) ≡ []
no_room = refl

-- a node that does not lend has no ticket
no_ticket : ticket_shown nine_wide 192 (run_of 7 2 Privileged) ≡ []
no_ticket = refl

-- of no run that is as bad there is no bar
no_bar : bars_shown (flat_map (bar nine_wide 192 3) (run_of 0 9 Privileged ∷ [])) Red 30 ≡ []
no_bar = refl

-- no node goes without a lane
some_lane : (page : Page) (columns : List Column) (lane : ℕ) (nodes : List ℕ) (shown : List Shown) → AreLanes page columns lane nodes shown
    → length shown ≡ 0 → length nodes ≡ 0
some_lane page columns lane nodes shown NoLane none = refl
some_lane page columns lane nodes shown (Lane runs are others) none = grind (arith, common_steps)

-- ---- what stands above and below the lanes

-- the line at 1 node has dashes, that at 2 has none
two_levels : (level_pen 1 ≡ record { colour = Ink; width = 1; dashes = codes "1 3" }) × (level_pen 2 ≡ whole Faint 1)
two_levels = (refl, refl)

-- the axis stands 24 and 64 below two lanes, and the number of the fourth column below it
axis_row : number_shown nine_wide (record { place = 3; event = 500 }) ≡ line_shown 214 328 214 334 (whole Ink 1) ∷ words_shown 214 348 Middle Ink (decimal 500) ∷ []
axis_row = refl

-- where no bound is reached there is no line, where the sharp one is there is one
no_guarantee : guarantees_over nine_wide 2 (with_sweeps 1) ≡ []
no_guarantee = refl

sharp_guarantee : guarantees_over nine_wide 2 (record (with_sweeps 1) { sharp = true }) ≡ guarantee_shown nine_wide 2 110 (codes "2 3") (codes "sharp bound")
sharp_guarantee = refl
