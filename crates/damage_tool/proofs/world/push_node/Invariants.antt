use Rattle.std.proofs.Common.{drop}
use Rattle.damage_tool.specs.Harms.{draw_port_harms}
use Rattle.damage_tool.proofs.Drawing.{IsDrawing}
use Rattle.damage_tool.proofs.world.push_node.Given as goal

-- what is still to be drawn are the ports to the neighbours that are left
abbrev pub invariant-loop-port : goal.invariant-loop-port
invariant-loop-port g l = IsDrawing (draw_port_harms l.ranges l.node) l.neighbours (drop l.port-index l.neighbours) l.initial.out.items l.out.items l.initial.generator l.generator
