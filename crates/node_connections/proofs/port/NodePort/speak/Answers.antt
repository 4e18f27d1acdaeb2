use Rattle.std.proofs.Common.{refl}
use Rattle.node_connections.proofs.port.NodePort.speak.Goals as goal

pub returns-then-is_offered-clause-speaks : goal.returns-then-is_offered-clause-speaks
returns-then-is_offered-clause-speaks g c = record {
  pushed = c.push_out.new.self;
  pushes = c.push_out.ensures.pushed;
  offers = rw c.if-is_offered.true c.offer.ensures.offered;
}

pub returns-else-is_offered-clause-speaks : goal.returns-else-is_offered-clause-speaks
returns-else-is_offered-clause-speaks g c = record {
  pushed = c.push_out.new.self;
  pushes = c.push_out.ensures.pushed;
  offers = rw c.if-is_offered.false (refl, refl);
}
