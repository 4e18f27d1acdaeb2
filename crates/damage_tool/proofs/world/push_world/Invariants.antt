use Rattle.std.proofs.Common.{◌-◌}
use Rattle.std.specs.List.{range_with_len}
use Rattle.damage_tool.specs.Harms.{draw_node, draw_links_from}
use Rattle.damage_tool.proofs.Drawing.{IsDrawing}
use Rattle.damage_tool.proofs.world.push_world.Given as goal

-- what is still to be drawn are the nodes that are left
abbrev pub invariant-loop-node : goal.invariant-loop-node
invariant-loop-node g l =
    IsDrawing (draw_node l.fn.net) (range_with_len 0 l.fn.net.nodes) (range_with_len l.node (l.fn.net.nodes - l.node)) l.initial.out.items l.out.items l.initial.generator l.generator

-- what is still to be drawn are the links from the nodes that are left
abbrev pub invariant-loop-from : goal.invariant-loop-from
invariant-loop-from g l =
    IsDrawing (draw_links_from l.fn.net) (range_with_len 0 l.fn.net.nodes) (range_with_len l.from (l.fn.net.nodes - l.from)) l.initial.out.items l.out.items l.initial.generator l.generator
