use Rattle.std.proofs.Common.{◌≡◌}
use Rattle.node_connections.specs.Hearing.{AreWired}
use Rattle.node_loop.specs.Remembering.{Remembers}
use Rattle.node_loop.proofs.run.NodeRun.hear_hellos.Given as goal

abbrev pub invariant-loop-place : goal.invariant-loop-place
invariant-loop-place g l =
    (l.self.node ≡ l.fn.self.node) × (l.self.net ≡ l.fn.self.net) × (l.self.turns ≡ l.fn.self.turns) × (l.self.store ≡ l.fn.self.store)
    × AreWired l.fn.self.ports.items l.self.ports.items × (l.self.clients ≡ l.fn.self.clients)
    × Remembers l.fn.self.pace l.self.pace
