use Rattle.std.proofs.Common.{◌≡◌}
use Rattle.node_loop.proofs.Noting.{SpokenNoted}
use Rattle.node_loop.proofs.run.NodeRun.speak.Given as goal

abbrev pub invariant-loop-id : goal.invariant-loop-id
invariant-loop-id g l =
    (l.self.node ≡ l.fn.self.node) × (l.self.net ≡ l.fn.self.net) × (l.self.turns ≡ l.fn.self.turns) × (l.self.store ≡ l.fn.self.store)
    × (l.self.clients ≡ l.fn.self.clients) × (l.self.has_more ≡ l.fn.self.has_more)
    × SpokenNoted g.D.P.Pipe.gave g.D.P.Pipe.took g.D.P.Pipe.counts l.fn.offers l.fn.now
    (record { node = l.fn.self.node; ports = l.fn.self.ports.items; pace = l.fn.self.pace; let_go = l.fn.self.let_go })
    (record { node = l.self.node; ports = l.self.ports.items; pace = l.self.pace; let_go = l.self.let_go })
    l.id l.fn.notes l.notes
