-- The two step curves below the lanes: how many nodes are privileged, and how many lend.
use Rattle.std.specs.Prelude.{ℕ, ◌+◌, ◌-◌, ◌/◌, ◌==◌, if◌then◌else◌, max, min, List, [], ◌∷◌, ◌++◌, codes, decimal, fold, map}
use Rattle.std.specs.List.{flat_map}
use Rattle.run_recording.specs.declared.column.Column.{Column}
use Rattle.svg_drawing.specs.declared.canvas.Anchor.TheVariants.{Start, End}
use Rattle.svg_drawing.specs.declared.colours.Colour.TheVariants.{Gold, Red, Ink, Faint}
use Rattle.run_picture.specs.declared.layout.page.Page.{Page}
use Rattle.run_picture.specs.declared.layout.curves.Curve.{Curve}
use Rattle.run_picture.specs.declared.layout.curves.Curve.TheVariants.{Privileged, Lending}
use Rattle.svg_drawing.specs.Drawn.{Shown, Pen, line_shown, path_shown, words_shown, whole}
use Rattle.svg_drawing.specs.Lengths.{px}
use Rattle.run_picture.specs.Added.{over_each}
use Rattle.run_picture.specs.Page.{x_of, right_of, ground_of, level_of}

-- the most nodes that are privileged, or lend, in any column, at least 1
abbrev pub most_nodes : List Column → ℕ
most_nodes columns = fold (λ most column. max most (max column.privileged column.lending)) 1 columns

-- what a curve counts in a column
abbrev pub count_in : Curve → Column → ℕ
count_in Privileged column = column.privileged
count_in Lending column = column.lending

-- the height of one node in the curves, so that they are 64 high at the most nodes; but at least 1,
-- and at most 24
abbrev pub node_height : ℕ → ℕ
node_height most = max (min (64 / max most 1) 24) 1

-- the count of the first column; 0 if there is none
abbrev pub first_count : List ℕ → ℕ
first_count [] = 0
first_count (count ∷ counts) = count

-- in a column the curve goes up or down to where its count stands, and on to the column's right end
abbrev pub step_in : Page → ℕ → ℕ → ℕ → List ℕ
step_in page node place count =
    codes "V" ++ (decimal (level_of page node count) ++ (codes "H" ++ decimal (x_of page (place + 1))))

-- the curve's steps through these columns, the first of which stands at a given place
abbrev pub steps_from : Page → ℕ → ℕ → List ℕ → List ℕ
steps_from page node = over_each (step_in page node)

-- the steps of a curve: it begins at the left end of the columns, where the first count stands
abbrev pub curve_steps : Page → ℕ → List ℕ → List ℕ
curve_steps page node counts =
    codes "M" ++ (decimal page.left.0 ++ (codes " " ++ (decimal (level_of page node (first_count counts)) ++ steps_from page node 0 counts)))

-- the line of the privileged nodes
abbrev pub privileged_pen : Pen
privileged_pen = whole Gold 3

-- the line of the nodes that lend
abbrev pub lending_pen : Pen
lending_pen = record { colour = Red; width = 2; dashes = codes "4 2" }

-- both curves, if a node is `node` high: that of the privileged nodes, and over it that of the
-- nodes that lend
abbrev pub both_curves : Page → ℕ → List Column → List Shown
both_curves page node columns =
    path_shown (curve_steps page node (map (count_in Privileged) columns)) privileged_pen
    ∷ path_shown (curve_steps page node (map (count_in Lending) columns)) lending_pen ∷ []

-- both curves of these columns
abbrev pub curves_shown : Page → List Column → List Shown
curves_shown page columns = both_curves page (node_height (most_nodes columns)) columns

-- the line at a number of nodes: the one at 1 stands out, since no more may be privileged
abbrev pub level_pen : ℕ → Pen
level_pen count = if count == 1 then record { colour = Ink; width = 1; dashes = codes "1 3" } else whole Faint 1

-- the line at a number of nodes, with this number left of it
abbrev pub level_shown : Page → ℕ → ℕ → List Shown
level_shown page node count =
    line_shown page.left.0 (level_of page node count) (right_of page) (level_of page node count) (level_pen count)
    ∷ words_shown (page.left.0 - 8) (px (level_of page node count + 4)) End Ink (decimal count) ∷ []

-- a piece of a line, and after it what the line is
abbrev pub name_shown : ℕ → ℕ → List ℕ → Pen → List Shown
name_shown x y name pen =
    line_shown x (y - 4) (px (x + 24)) (y - 4) pen ∷ words_shown (px (x + 30)) y Start Ink name ∷ []

-- which curve is which, below the axis, and what the axis counts
abbrev pub names_shown : Page → ℕ → List Shown
names_shown page y =
    name_shown page.left.0 y (codes "privileged nodes") privileged_pen
    ++ (name_shown (px (page.left.0 + 150)) y (codes "lending nodes") lending_pen
    ++ words_shown (right_of page) y End Ink (codes "events since the start") ∷ [])

-- the lines at 0 nodes, at 1 and at the most, and below them which curve is which
abbrev pub levels_shown : Page → List Column → List Shown
levels_shown page columns =
    flat_map (level_shown page (node_height (most_nodes columns))) (0 ∷ 1 ∷ most_nodes columns ∷ [])
    ++ names_shown page (px (ground_of page + 48))
