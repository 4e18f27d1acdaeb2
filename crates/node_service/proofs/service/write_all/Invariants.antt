use Rattle.node_service.specs.Clients.{AreConnected}
use Rattle.node_connections.specs.Clients.{is_connected}
use Rattle.node_service.specs.Deeds.{IsLeaveOfGone}
use Rattle.node_connections.specs.Heard.{NothingHeard}
use Rattle.node_connections.specs.Lives.{LiveOn}
use Rattle.node_service.specs.Noting.{Did}
use Rattle.node_connections.specs.Said.{NothingSaid}
use Rattle.node_connections.proofs.GoingOut.{GoOutBelow}
use Rattle.node_connections.proofs.Served.{AllEndByWrite}
use Rattle.node_service.proofs.service.write_all.Given as goal

abbrev pub invariant-loop-ticket : goal.invariant-loop-ticket
invariant-loop-ticket g l =
    Did (IsLeaveOfGone (is_connected l.clients)) l.fn.node l.node l.fn.notes l.notes × (AreConnected l.fn.clients l.fn.node → AreConnected l.clients l.node)
    × LiveOn g.P.Pipe.gave g.P.Pipe.took g.P.Pipe.counts l.fn.clients l.clients × NothingSaid g.P.Pipe.took l.fn.clients l.clients
    × GoOutBelow g.P.Pipe.counts l.ticket l.fn.clients l.clients × NothingHeard g.P.Pipe.gave l.fn.clients l.clients
    × AllEndByWrite g.P.Pipe.gave g.P.Pipe.took g.P.Pipe.counts l.fn.clients l.clients
