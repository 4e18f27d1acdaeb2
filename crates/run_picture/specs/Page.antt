-- Where the parts of a picture stand on the page, in units of the page from its left and upper
-- ends. From the top: title, legend, damage, sweeps, the lanes, the curves with their axis. The
-- tree stands left of the lanes.
use Rattle.std.specs.Prelude.{ℕ, ◌+◌, ◌-◌, ◌*◌, ◌/◌, max, min}
use Rattle.topology.specs.Network.{Network}
use Rattle.topology.specs.Eccentricity.{eccentricity_of}
use Rattle.run_picture.specs.declared.layout.page.Page.{Page}
use Rattle.svg_drawing.specs.Lengths.{px}

-- how wide a column is: all columns together are 1200 wide, but each is at least 1 and at most 24
abbrev pub column_width : ℕ → ℕ
column_width columns = max (min (1200 / max columns 1) 24) 1

-- how high a lane is: all lanes together are 640 high, but each is at least 12 and at most 32
abbrev pub lane_height : ℕ → ℕ
lane_height lanes = max (min (640 / max lanes 1) 32) 12

-- how far a node is to the right of its parent: a tree of this depth is 200 wide, but each step is
-- at least 3 and at most 22
abbrev pub indent_of : ℕ → ℕ
indent_of depth = max (min (200 / max depth 1) 22) 3

-- where the columns begin: after a margin of 16, the tree, and 104 for the nodes' names
abbrev pub left_of : ℕ → ℕ
left_of depth = px (px (16 + px (indent_of depth * max depth 1)) + 104)

-- the page for a network and this many columns
abbrev pub page_of : Network → ℕ → Page
page_of net columns = record {
  left = record { 0 = left_of (eccentricity_of net) };
  column = record { 0 = column_width columns };
  columns = columns;
  lane = record { 0 = lane_height net.nodes };
  lanes = net.nodes;
  indent = record { 0 = indent_of (eccentricity_of net) };
}

-- the left end of a column; the columns count from 0
abbrev pub x_of : Page → ℕ → ℕ
x_of page column = px (page.left.0 + px (page.column.0 * column))

-- the right end of all columns
abbrev pub right_of : Page → ℕ
right_of page = x_of page page.columns

-- the middle of a column
abbrev pub middle_of : Page → ℕ → ℕ
middle_of page column = px (x_of page column + page.column.0 / 2)

-- the upper end of a lane, below 176 of title, legend, damage and sweeps; the lanes count from 0
abbrev pub top_of : Page → ℕ → ℕ
top_of page lane = px (176 + px (page.lane.0 * lane))

-- the middle of a lane
abbrev pub y_of : Page → ℕ → ℕ
y_of page lane = px (top_of page lane + page.lane.0 / 2)

-- where the curves stand at 0 nodes: 24 and then 64 below the lanes
abbrev pub ground_of : Page → ℕ
ground_of page = px (px (top_of page page.lanes + 24) + 64)

-- where a curve stands at `count` nodes, each of which is `node` high
abbrev pub level_of : Page → ℕ → ℕ → ℕ
level_of page node count = ground_of page - px (node * count)

-- the width of the page, wide enough for the legend
abbrev pub page_width : Page → ℕ
page_width page = max (px (right_of page + 48)) 800

-- the height of the page
abbrev pub page_height : Page → ℕ
page_height page = px (ground_of page + 64)

-- how far from the left a node of the tree stands, by its distance from the root
abbrev pub node_x : Page → ℕ → ℕ
node_x page depth = px (px (16 + 8) + px (page.indent.0 * depth))
