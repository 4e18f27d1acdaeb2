use Rattle.std.proofs.Common.{refl}
use Rattle.node_connections.proofs.Lives.{admits-join, admits-none, admits-one}
use Rattle.node_loop.proofs.run.NodeRun.accept_clients.Goals as goal

pub loop-init : goal.loop-init
loop-init g c = (refl, refl, refl, refl, refl, admits-none c.args.self.now.clients, refl)

pub loop-preserved : goal.loop-preserved
loop-preserved g c =
    let before = c.loop.invariant in
    let start = c.args.self.now.clients in
    let mid = c.loop.self.clients in
    let new = c.admit.new.self in
    let key = mid.table.vacant_key in
    (before.0, before.1, before.2, before.3, before.4, admits-join start mid new before.5 (admits-one key mid new c.admit.ensures.was_free c.admit.ensures.others c.admit.ensures.silent c.admit.ensures.reader), before.6)
