use Rattle.std.proofs.Common.{◌≡◌, ◌++◌}
use Rattle.std.specs.List.{flat_map, range_with_len}
use Rattle.svg_drawing.specs.Drawn.{drawn}
use Rattle.settling_plot.specs.Ground.{level_shown}
use Rattle.settling_plot.proofs.ground.draw_levels.Given as goal

-- the first levels are drawn
abbrev pub invariant-loop-quarter : goal.invariant-loop-quarter
invariant-loop-quarter l = drawn l.canvas ≡ drawn l.fn.canvas ++ flat_map (level_shown l.axis) (range_with_len 0 l.quarter)
