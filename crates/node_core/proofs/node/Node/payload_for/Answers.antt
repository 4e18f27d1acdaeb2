use Rattle.std.proofs.Common.{ap}
use Rattle.node_core.proofs.node.Node.payload_for.Goals as goal

pub returns-clause-payload : goal.returns-clause-payload
returns-clause-payload g c =
    rw (← c.self.view_is) (ap (λ x. record { distance = c.self.inside.distance; parent = c.self.inside.parent; ring = x }) c.ring_towards.ensures.value)
