use Rattle.node_core.proofs.InRange.{node_in_range}
use Rattle.node_core.proofs.node.Node.ranges.Goals as goal

pub returns-clause-in_range : goal.returns-clause-in_range
returns-clause-in_range g c = rw (← c.self.view_is) (node_in_range _ c.self.invariant c.ranges-2.ensures.registers c.lease-known_lease.ensures.fits)
