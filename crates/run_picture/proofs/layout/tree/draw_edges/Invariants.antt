use Rattle.std.proofs.Common.{◌≡◌, ◌++◌, take}
use Rattle.std.specs.List.{flat_map}
use Rattle.svg_drawing.specs.Drawn.{drawn}
use Rattle.run_picture.specs.Tree.{edge_shown}
use Rattle.run_picture.proofs.layout.tree.draw_edges.Given as goal

-- the first edges are drawn
abbrev pub invariant-loop-edge : goal.invariant-loop-edge
invariant-loop-edge l = drawn l.canvas ≡ drawn l.fn.canvas ++ flat_map (edge_shown l.page l.net l.order) (take l.edge-index l.edges)
