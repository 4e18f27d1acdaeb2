use Rattle.std.proofs.Common.{◌≡◌}
use Rattle.node_connections.specs.Lives.{Admits}
use Rattle.node_loop.proofs.run.NodeRun.accept_clients.Given as goal

abbrev pub invariant-loop : goal.invariant-loop
invariant-loop g l =
    (l.self.node ≡ l.fn.self.node) × (l.self.net ≡ l.fn.self.net) × (l.self.turns ≡ l.fn.self.turns) × (l.self.store ≡ l.fn.self.store)
    × (l.self.ports ≡ l.fn.self.ports) × Admits l.fn.self.clients l.self.clients × (l.self.pace ≡ l.fn.self.pace)
