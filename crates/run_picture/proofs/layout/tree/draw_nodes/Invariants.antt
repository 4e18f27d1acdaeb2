use Rattle.std.proofs.Common.{◌≡◌, ◌++◌, take}
use Rattle.svg_drawing.specs.Drawn.{drawn}
use Rattle.run_picture.specs.Tree.{nodes_shown}
use Rattle.run_picture.proofs.layout.tree.draw_nodes.Given as goal

-- the first nodes are drawn
abbrev pub invariant-loop-lane : goal.invariant-loop-lane
invariant-loop-lane l = drawn l.canvas ≡ drawn l.fn.canvas ++ nodes_shown l.page l.net 0 (take l.lane l.order)
