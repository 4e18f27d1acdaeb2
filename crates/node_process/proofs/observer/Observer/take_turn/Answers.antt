use Rattle.std.proofs.Common.{refl}
use Rattle.node_process.proofs.observer.Observer.take_turn.Goals as goal

pub returns-clause-looks : goal.returns-clause-looks
returns-clause-looks g c = c.turn-turned.ensures.saves

pub returns-clause-turns : goal.returns-clause-turns
returns-clause-turns g c = rw c.now-ended.ensures.said c.turn_ended.ensures.turns

pub returns-clause-loans : goal.returns-clause-loans
returns-clause-loans g c =
    rw c.now-ended.ensures.said (rw (c.has_granted.ensures, c.node.ensures) at c.turn_ended.ensures.loans)

pub returns-clause-others : goal.returns-clause-others
returns-clause-others g c = (refl, refl)

pub returns-clause-rounds : goal.returns-clause-rounds
returns-clause-rounds g c = rw c.node.ensures at c.turn_ended.ensures.rounds

pub returns-clause-link : goal.returns-clause-link
returns-clause-link g c sight within seen = rw c.now-ended.ensures.said (c.turn_ended.ensures.link sight within (rw c.ports.ensures seen))

pub returns-clause-other_links : goal.returns-clause-other_links
returns-clause-other_links g c = c.turn_ended.ensures.others

pub returns-clause-rest : goal.returns-clause-rest
returns-clause-rest g c = let rest = c.turn_ended.ensures.rest in (rest.0, rw (c.nodes.ensures.nodes, c.net.ensures) at rest.1, rest.2)
