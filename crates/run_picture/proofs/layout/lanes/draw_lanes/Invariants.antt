use Rattle.std.proofs.Common.{take}
use Rattle.run_picture.specs.Added.{Adds}
use Rattle.svg_drawing.specs.Drawn.{drawn}
use Rattle.run_picture.specs.Lanes.{AreLanes}
use Rattle.run_picture.proofs.layout.lanes.draw_lanes.Given as goal

-- the lanes of the first nodes are added
abbrev pub invariant-loop-lane : goal.invariant-loop-lane
invariant-loop-lane l = Adds (AreLanes l.page l.columns 0 (take l.lane l.order)) (drawn l.fn.canvas) (drawn l.canvas)
