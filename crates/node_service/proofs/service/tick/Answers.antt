use Rattle.std.proofs.Common.{◌≡◌, false, ap, refl, subst}
use Rattle.lock_desk.specs.Desk.{is_stranger}
use Rattle.node_service.proofs.Leaving.{known-tick}
use Rattle.node_connections.specs.Clients.{is_connected}
use Rattle.node_service.specs.Deeds.{IsLeaveOfGone}
use Rattle.node_connections.proofs.Lives.{stay}
use Rattle.node_service.proofs.Noting.{did-act, did-none}
use Rattle.node_service.proofs.service.tick.Goals as goal

pub returns-in-Granted-clause-node : goal.returns-in-Granted-clause-node
returns-in-Granted-clause-node g c =
    let ticks = c.tick-ticked.ensures in
    did-act (is_connected c.reply.new.clients) c.tick-ticked.result c.args.node.now c.tick-ticked.new.self c.reply.new.node c.args.notes.now c.ticks.new.self c.reply.new.notes ticks.act ticks.full ticks.site ticks.state c.ticks.ensures c.reply.ensures.node

pub returns-in-Lost-clause-node : goal.returns-in-Lost-clause-node
returns-in-Lost-clause-node g c =
    let ticks = c.tick-ticked.ensures in
    did-act (is_connected c.reply-in-Lost.new.clients) c.tick-ticked.result c.args.node.now c.tick-ticked.new.self c.reply-in-Lost.new.node c.args.notes.now c.ticks.new.self c.reply-in-Lost.new.notes ticks.act ticks.full ticks.site ticks.state c.ticks.ensures c.reply-in-Lost.ensures.node

pub returns-in-Quiet-clause-node : goal.returns-in-Quiet-clause-node
returns-in-Quiet-clause-node g c =
    let ticks = c.tick-ticked.ensures in
    did-act (is_connected c.args.clients.now) c.tick-ticked.result c.args.node.now c.tick-ticked.new.self c.tick-ticked.new.self c.args.notes.now c.ticks.new.self c.ticks.new.self ticks.act ticks.full ticks.site ticks.state c.ticks.ensures
    (did-none (IsLeaveOfGone (is_connected c.args.clients.now)) c.tick-ticked.new.self c.ticks.new.self)

pub returns-in-Granted-clause-connected : goal.returns-in-Granted-clause-connected
returns-in-Granted-clause-connected g c were =
    let node = c.args.node.now in
    let desk = ap (λ s. s.desk) c.tick-ticked.ensures.state in
    c.reply.ensures.connected (λ u known. were u (known-tick _ _ u node.desk.state (subst (λ d. is_stranger u d ≡ false) desk known)))

pub returns-in-Lost-clause-connected : goal.returns-in-Lost-clause-connected
returns-in-Lost-clause-connected g c were =
    let node = c.args.node.now in
    let desk = ap (λ s. s.desk) c.tick-ticked.ensures.state in
    c.reply-in-Lost.ensures.connected (λ u known. were u (known-tick _ _ u node.desk.state (subst (λ d. is_stranger u d ≡ false) desk known)))

pub returns-in-Quiet-clause-lives : goal.returns-in-Quiet-clause-lives
returns-in-Quiet-clause-lives g c = stay g.P.Pipe.gave g.P.Pipe.took g.P.Pipe.counts c.args.clients.now c.args.clients.now refl
