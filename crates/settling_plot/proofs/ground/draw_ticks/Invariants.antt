use Rattle.std.proofs.Common.{◌≡◌, ◌++◌}
use Rattle.std.specs.List.{flat_map, range_with_len}
use Rattle.svg_drawing.specs.Drawn.{drawn}
use Rattle.settling_plot.specs.Ground.{power_shown}
use Rattle.settling_plot.proofs.ground.draw_ticks.Given as goal

-- 0 and the first powers are drawn
abbrev pub invariant-loop-doublings : goal.invariant-loop-doublings
invariant-loop-doublings l = drawn l.canvas ≡ drawn l.initial.canvas ++ flat_map (power_shown l.axis) (range_with_len 0 l.doublings)
