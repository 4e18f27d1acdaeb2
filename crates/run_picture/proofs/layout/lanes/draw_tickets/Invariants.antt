use Rattle.std.proofs.Common.{◌≡◌, ◌++◌, take}
use Rattle.std.specs.List.{flat_map}
use Rattle.svg_drawing.specs.Drawn.{drawn}
use Rattle.run_picture.specs.Lanes.{ticket_shown}
use Rattle.run_picture.proofs.layout.lanes.draw_tickets.Given as goal

-- the tickets of the first runs are added
abbrev pub invariant-loop-run : goal.invariant-loop-run
invariant-loop-run l = drawn l.canvas ≡ drawn l.fn.canvas ++ flat_map (ticket_shown l.page l.y.0) (take l.run-index l.runs)
