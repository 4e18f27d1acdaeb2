use Rattle.std.proofs.Common.{◌≡◌, ◌∙◌, ◌++◌, ap, arith}
use Rattle.std.specs.List.{flat_map, range_with_len}
use Rattle.svg_drawing.specs.Drawn.{drawn}
use Rattle.settling_plot.specs.Ground.{level_shown}
use Rattle.settling_plot.proofs.Numbers.{shown_next}
use Rattle.settling_plot.proofs.ground.draw_levels.Goals as goal

pub loop-quarter-preserved : goal.loop-quarter-preserved
loop-quarter-preserved c =
    shown_next (level_shown c.args.axis) c.loop-quarter.quarter _ _ _ c.loop-quarter.invariant c.in_ok-draw_level.ensures

pub returns : goal.returns
returns c =
    let all : c.loop-quarter.quarter ≡ 5 = omega (arith, c.loop-quarter-test.false, c.loop-quarter.auto.quarter-end) in
    c.loop-quarter.invariant ∙ ap (λ n. drawn c.args.canvas.now ++ flat_map (level_shown c.args.axis) (range_with_len 0 n)) all
