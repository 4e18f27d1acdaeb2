use Rattle.std.proofs.Common.{drop}
use Rattle.damage_tool.specs.Harms.{draw_link}
use Rattle.damage_tool.proofs.Drawing.{IsDrawing}
use Rattle.damage_tool.proofs.world.push_links_from.Given as goal

-- what is still to be drawn are the links to the neighbours that are left
abbrev pub invariant-loop-to : goal.invariant-loop-to
invariant-loop-to g l = IsDrawing (draw_link l.fn.net l.from) l.neighbours (drop l.to-index l.neighbours) l.fn.out.items l.out.items l.fn.generator l.generator
