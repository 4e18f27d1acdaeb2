use Rattle.pace.specs.Plans.{port_of, sight_of, rest_at, node_rest}
use Rattle.pace.proofs.Going.{IsLeast}
use Rattle.pace.proofs.pace.TurnPace.rest.Given as goal

abbrev pub invariant-loop-port : goal.invariant-loop-port
invariant-loop-port l =
    IsLeast (λ p. rest_at (sight_of l.sights p) l.holds l.self.manner.repeat l.now (port_of l.self.ports p))
    (node_rest l.outlook l.self.manner l.now l.self.node) l.rest l.port
