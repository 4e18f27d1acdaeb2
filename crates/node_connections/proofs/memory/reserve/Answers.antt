use Rattle.std.proofs.Common.{rules, subst, sym, []}
use Rattle.node_connections.specs.Loose.{AreLoose}
use Rattle.node_connections.proofs.Loose.{loose-pushed}
use Rattle.node_connections.proofs.memory.reserve.Goals as goal

pub loop-preserved : goal.loop-preserved
loop-preserved g c = (
  search rules,
  search rules,
  subst (λ items. AreLoose [] items) (sym c.push_reserved.ensures.items) (loose-pushed [] c.loop.ports.items c.new.result c.new.ensures.0 c.new.ensures.1 c.loop.invariant.2),
)
