-- The lanes: the marks of each node, from left to right.
use Rattle.std.specs.Prelude.{ℕ, suc, ◌+◌, ◌-◌, ◌*◌, ◌/◌, ◌==◌, if◌then◌else◌, nat_lt, List, [], ◌∷◌, ◌++◌, Option, None, Some, length, map, codes, decimal}
use Rattle.std.specs.List.{flat_map}
use Rattle.run_recording.specs.declared.column.Column.{Column}
use Rattle.svg_drawing.specs.declared.canvas.Anchor.TheVariants.{Middle}
use Rattle.svg_drawing.specs.declared.colours.Colour.{Colour}
use Rattle.svg_drawing.specs.declared.colours.Colour.TheVariants.{Pale, Grey, Gold, Red, Paper}
use Rattle.run_picture.specs.declared.layout.page.Page.{Page}
use Rattle.run_recording.specs.declared.runs.Run.{Run}
use Rattle.svg_drawing.specs.Drawn.{Shown, path_shown, rect_shown, words_shown, whole}
use Rattle.run_recording.specs.Marks.{rank}
use Rattle.svg_drawing.specs.Lengths.{px}
use Rattle.run_picture.specs.Page.{x_of, right_of, y_of}
use Rattle.run_recording.specs.Runs.{mark_in, AreRuns}
use Rattle.run_picture.specs.Words.{ticket_words}

-- how wide a run is
abbrev pub width_of : Page → Run → ℕ
width_of page run = px (page.column.0 * run.count)

-- the bar along a run, if its mark has this rank
abbrev pub bar : Page → ℕ → ℕ → Run → List ℕ
bar page y bad run =
    if rank run.mark == bad then
    codes "M" ++ (decimal (x_of page run.first) ++ (codes " " ++ (decimal y ++ (codes "h" ++ decimal (width_of page run)))))
    else []

-- bars of one colour and height, as a thick line along their middles; nothing if there is no bar
abbrev pub bars_shown : List ℕ → Colour → ℕ → List Shown
bars_shown steps colour height = if length steps == 0 then [] else path_shown steps (whole colour height) ∷ []

-- The bars over the ground of a lane, by how high it is: grey ones along the runs that are wrong, half
-- as high; over them gold ones along those that are privileged, three quarters as high; and over
-- these red ones along those that lend, as high as the ground.
abbrev pub all_bars_shown : Page → ℕ → ℕ → List Run → List Shown
all_bars_shown page y high runs =
    bars_shown (flat_map (bar page y 1) runs) Grey (high / 2)
    ++ (bars_shown (flat_map (bar page y 2) runs) Gold (px (high * 3) / 2 / 2)
    ++ bars_shown (flat_map (bar page y 3) runs) Red high)

-- a ticket in the middle of a run, if there is one and the run has room for it: 7 for each digit, and 3
abbrev pub ticket_in : Page → ℕ → Run → Option (List ℕ) → List Shown
ticket_in page y run None = []
ticket_in page y run (Some digits) =
    if nat_lt (width_of page run) (px (px (7 * length digits) + 3)) then []
    else words_shown (px (x_of page run.first + width_of page run / 2)) (px (y + 4)) Middle Paper digits ∷ []

-- the ticket of a run that lends
abbrev pub ticket_shown : Page → ℕ → Run → List Shown
ticket_shown page y run = ticket_in page y run (ticket_words run.mark)

-- how high the ground of a lane is: 2 less than the lane, so that two grounds do not touch
abbrev pub ground_height : Page → ℕ
ground_height page = page.lane.0 - 2

-- the lane of a node that has these runs: its pale ground, over that the bars, and over them the tickets
abbrev pub lane_shown : Page → ℕ → List Run → List Shown
lane_shown page lane runs =
    rect_shown page.left.0 (y_of page lane - ground_height page / 2) (right_of page - page.left.0) (ground_height page) Pale
    ∷ (all_bars_shown page (y_of page lane) (ground_height page) runs ++ flat_map (ticket_shown page (y_of page lane)) runs)

-- These are the lanes of these nodes, one below the other from a lane on: each shows the runs of
-- its node's marks in these columns.
pub data AreLanes (page : Page) (columns : List Column) : ℕ → List ℕ → List Shown → Type 0 where
  NoLane : {lane : ℕ} → AreLanes page columns lane [] []
  Lane : {lane v : ℕ} {nodes : List ℕ} {others : List Shown} (runs : List Run)
      → AreRuns (map (mark_in v) columns) runs → AreLanes page columns (suc lane) nodes others
      → AreLanes page columns lane (v ∷ nodes) (lane_shown page lane runs ++ others)
