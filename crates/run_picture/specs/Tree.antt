-- The network, beside the lanes: each node in its lane, as far to the right as it is from the root.
use Rattle.std.specs.Prelude.{ℕ, ◌+◌, ◌-◌, ◌/◌, ◌==◌, if◌then◌else◌, nat_lt, max, min, List, [], ◌∷◌, ◌++◌, Option, Some, codes, decimal}
use Rattle.std.specs.List.{flat_map, position}
use Rattle.topology.specs.Network.{Network, Edge}
use Rattle.topology.specs.Tree.{distance_of}
use Rattle.svg_drawing.specs.declared.canvas.Anchor.TheVariants.{End}
use Rattle.svg_drawing.specs.declared.colours.Colour.TheVariants.{Ink, Faint}
use Rattle.run_picture.specs.declared.layout.page.Page.{Page}
use Rattle.svg_drawing.specs.Drawn.{Shown, circle_shown, path_shown, words_shown, whole}
use Rattle.svg_drawing.specs.Lengths.{px}
use Rattle.run_recording.specs.TreeEdges.{is_on_tree}
use Rattle.run_picture.specs.Added.{over_each}
use Rattle.run_picture.specs.Page.{node_x, y_of}
use Rattle.run_picture.specs.Words.{node_name}

-- the lane of a node: its place in the order from above, if it has one
abbrev pub lane_of : List ℕ → ℕ → Option ℕ
lane_of order v = position (λ u. u == v) order

-- how far from the left a node stands: by its distance from the root
abbrev pub tree_x : Page → Network → ℕ → ℕ
tree_x page net v = node_x page (if nat_lt v net.nodes then distance_of net v else 0)

-- down from a place, and then across to another
abbrev pub corner_steps : ℕ → ℕ → ℕ → ℕ → List ℕ
corner_steps x y end_x end_y =
    codes "M" ++ (decimal x ++ (codes " " ++ (decimal y ++ (codes "V" ++ (decimal end_y ++ (codes "H" ++ decimal end_x))))))

-- how far a bow goes to the right of its ends: a third of its height, but at least 8 and at most 40
abbrev pub bow_width : ℕ → ℕ
bow_width high = max (min (high / 3) 40) 8

-- in a bow to the right from a place down to another
abbrev pub bow_steps : ℕ → ℕ → ℕ → ℕ → List ℕ
bow_steps x y end_x end_y =
    codes "M" ++ (decimal x ++ (codes " " ++ (decimal y ++ (codes "Q" ++ (decimal (px (max x end_x + bow_width (end_y - y)))
    ++ (codes " " ++ (decimal (px (y + (end_y - y) / 2)) ++ (codes " " ++ (decimal end_x ++ (codes " " ++ decimal end_y))))))))))

-- the line of an edge from a node in a lane to one in a lane below: thick and with a corner if the
-- edge is one of the tree, thin and round if it is not
abbrev pub line_down : Page → Network → ℕ → ℕ → ℕ → ℕ → Shown
line_down page net v w upper lower =
    if is_on_tree net v w
    then path_shown (corner_steps (tree_x page net v) (y_of page upper) (tree_x page net w) (y_of page lower)) (whole Ink 3)
    else path_shown (bow_steps (tree_x page net v) (y_of page upper) (tree_x page net w) (y_of page lower)) (whole Faint 1)

-- the line of an edge, by the lanes of its nodes: from the upper to the lower one
abbrev pub edge_between : Page → Network → ℕ → ℕ → Option ℕ → Option ℕ → List Shown
edge_between page net v w (Some a) (Some b) = (if nat_lt a b then line_down page net v w a b else line_down page net w v b a) ∷ []
edge_between page net v w _ _ = []

-- an edge, if each of its nodes has a lane
abbrev pub edge_shown : Page → Network → List ℕ → Edge → List Shown
edge_shown page net order edge = edge_between page net edge.0 edge.1 (lane_of order edge.0) (lane_of order edge.1)

-- a node in its lane: a point, and its name left of the lane
abbrev pub node_shown : Page → Network → ℕ → ℕ → List Shown
node_shown page net lane v =
    circle_shown (tree_x page net v) (y_of page lane) 5 Ink ∷ words_shown (page.left.0 - 8) (px (y_of page lane + 4)) End Ink (node_name v) ∷ []

-- nodes in lanes below each other, from one on
abbrev pub nodes_shown : Page → Network → ℕ → List ℕ → List Shown
nodes_shown page net = over_each (node_shown page net)

-- the network: all its edges, and over them its nodes
abbrev pub tree_shown : Page → Network → List ℕ → List Shown
tree_shown page net order = flat_map (edge_shown page net order) net.edges ++ nodes_shown page net 0 order
