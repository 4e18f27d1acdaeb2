use Rattle.pace.specs.Plans.{port_of, sight_of}
use Rattle.pace.specs.Ports.{is_due}
use Rattle.pace.proofs.Going.{IsPlanned}
use Rattle.pace.proofs.pace.TurnPace.plan.Given as goal

abbrev pub invariant-loop-port : goal.invariant-loop-port
invariant-loop-port l =
    IsPlanned (λ p. is_due (sight_of l.sights p) l.holds l.self.manner.repeat l.now (port_of l.self.ports p)) l.offers l.port
