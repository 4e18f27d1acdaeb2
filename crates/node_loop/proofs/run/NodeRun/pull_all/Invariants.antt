use Rattle.std.proofs.Common.{◌≡◌}
use Rattle.node_core.specs.View.{site_in}
use Rattle.node_connections.specs.Hearing.{Pulls}
use Rattle.node_loop.specs.Remembering.{Remembers}
use Rattle.node_loop.proofs.Noting.{HeardNoted}
use Rattle.node_loop.proofs.run.NodeRun.pull_all.Given as goal

abbrev pub invariant-loop-id : goal.invariant-loop-id
invariant-loop-id g l =
    HeardNoted (Pulls (site_in l.fn.self.node).ranges g.D.P.Pipe.gave g.D.P.Pipe.took g.D.P.Pipe.counts) l.fn.self.node l.self.node l.fn.self.ports.items l.self.ports.items l.id l.fn.notes l.notes
    × (l.self.net ≡ l.fn.self.net) × (l.self.turns ≡ l.fn.self.turns) × (l.self.store ≡ l.fn.self.store) × (l.self.clients ≡ l.fn.self.clients)
    × Remembers l.fn.self.pace l.self.pace
