use Rattle.std.proofs.Common.{◌≡◌}
use Rattle.node_core.specs.View.{site_in}
use Rattle.node_connections.specs.Hearing.{Comes}
use Rattle.node_loop.specs.Noting.{DidTake}
use Rattle.node_loop.specs.Remembering.{Remembers}
use Rattle.node_loop.proofs.run.NodeRun.pull.Given as goal

abbrev pub invariant-loop : goal.invariant-loop
invariant-loop g l =
    DidTake (Comes (site_in l.fn.self.node).ranges g.D.P.Pipe.gave g.D.P.Pipe.took) l.fn.id l.fn.self.node l.self.node l.fn.self.ports.items l.self.ports.items l.fn.notes l.notes
    × (l.self.net ≡ l.fn.self.net) × (l.self.turns ≡ l.fn.self.turns) × (l.self.store ≡ l.fn.self.store) × (l.self.clients ≡ l.fn.self.clients)
    × Remembers l.fn.self.pace l.self.pace
