use Rattle.node_connections.proofs.Arrivals.{HasHeard}
use Rattle.node_connections.proofs.lobby.Visitor.listen.Given as goal

abbrev pub invariant-loop : goal.invariant-loop
invariant-loop g l = HasHeard g.P.Pipe.gave g.P.Pipe.took l.fn.self l.self
