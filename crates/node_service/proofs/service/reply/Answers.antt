use Rattle.node_connections.proofs.Heard.{unheard-gone, unheard-join, unheard-same}
use Rattle.node_connections.proofs.Lives.{stay, live-join, live-gone, closed-gone}
use Rattle.node_connections.specs.Clients.{is_connected}
use Rattle.node_service.specs.Deeds.{IsLeaveOfGone}
use Rattle.node_service.proofs.Noting.{did-none}
use Rattle.node_service.proofs.service.reply.Goals as goal

pub returns-else-not-say-clause-node : goal.returns-else-not-say-clause-node
returns-else-not-say-clause-node g c = did-none (IsLeaveOfGone (is_connected c.say.new.self)) c.args.node.now c.args.notes.now

pub returns-then-not-say-clause-lives : goal.returns-then-not-say-clause-lives
returns-then-not-say-clause-lives g c =
    let old = c.args.clients.now in
    let mid = c.say.new.self in
    let new = c.dismiss.new.clients in
    live-join g.P.Pipe.gave g.P.Pipe.took g.P.Pipe.counts old mid new (stay g.P.Pipe.gave g.P.Pipe.took g.P.Pipe.counts old mid c.say.ensures.table)
    (live-gone g.P.Pipe.gave g.P.Pipe.took g.P.Pipe.counts c.args.ticket mid new c.dismiss.ensures.others (closed-gone c.args.ticket mid new c.dismiss.ensures.closed))

pub returns-else-not-say-clause-lives : goal.returns-else-not-say-clause-lives
returns-else-not-say-clause-lives g c = stay g.P.Pipe.gave g.P.Pipe.took g.P.Pipe.counts c.args.clients.now c.say.new.self c.say.ensures.table

pub returns-then-not-say-clause-heard : goal.returns-then-not-say-clause-heard
returns-then-not-say-clause-heard g c =
    let old = c.args.clients.now in
    let mid = c.say.new.self in
    let new = c.dismiss.new.clients in
    unheard-join g.P.Pipe.gave old mid new (unheard-same g.P.Pipe.gave old mid c.say.ensures.table)
    (unheard-gone g.P.Pipe.gave c.args.ticket mid new c.dismiss.ensures.others (closed-gone c.args.ticket mid new c.dismiss.ensures.closed))

pub returns-else-not-say-clause-heard : goal.returns-else-not-say-clause-heard
returns-else-not-say-clause-heard g c = unheard-same g.P.Pipe.gave c.args.clients.now c.say.new.self c.say.ensures.table
