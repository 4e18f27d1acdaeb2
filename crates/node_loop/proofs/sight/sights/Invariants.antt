use Rattle.std.proofs.Common.{take}
use Rattle.node_core.specs.View.{site_in}
use Rattle.pace.specs.Plans.{no_sight}
use Rattle.node_loop.specs.Speaking.{sight_at}
use Rattle.node_loop.proofs.Sights.{AreSeen}
use Rattle.node_loop.proofs.sight.sights.Given as goal

abbrev pub invariant-loop-w : goal.invariant-loop-w
invariant-loop-w g l = AreSeen (sight_at l.fn.node l.fn.ports) no_sight (take l.w-index (site_in l.fn.node).neighbours) l.sights
