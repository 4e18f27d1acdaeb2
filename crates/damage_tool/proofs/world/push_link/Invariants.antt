use Rattle.std.proofs.Common.{◌-◌}
use Rattle.std.specs.List.{range_with_len}
use Rattle.damage_tool.specs.Harms.{draw_item_harm}
use Rattle.damage_tool.proofs.Drawing.{IsDrawing}
use Rattle.damage_tool.proofs.world.push_link.Given as goal

-- what is still to be drawn are the items that are left
abbrev pub invariant-loop-i : goal.invariant-loop-i
invariant-loop-i g l =
    IsDrawing (draw_item_harm l.ranges l.from l.to) (range_with_len 0 l.count) (range_with_len l.i (l.count - l.i)) l.initial.out.items l.out.items l.initial.generator l.generator
