use Rattle.node_connections.specs.Lives.{LiveOn}
use Rattle.node_connections.specs.Said.{IsServed}
use Rattle.node_service.specs.Serving.{Serves}
use Rattle.node_connections.proofs.BeingRead.{ReadBelow}
use Rattle.node_service.proofs.Pieces.{GaveBelow}
use Rattle.node_service.proofs.service.serve_all.Given as goal

abbrev pub invariant-loop-ticket : goal.invariant-loop-ticket
invariant-loop-ticket g l =
    Serves g.P.Pipe.took (IsServed g.P.Pipe.gave g.P.Pipe.took g.P.Pipe.counts l.fn.clients l.clients) l.fn.node l.node l.fn.notes l.notes l.fn.clients l.clients
    × LiveOn g.P.Pipe.gave g.P.Pipe.took g.P.Pipe.counts l.fn.clients l.clients × ReadBelow g.P.Pipe.gave g.P.Pipe.took g.P.Pipe.counts l.ticket l.fn.clients l.clients
    × GaveBelow g.P.Pipe.gave g.P.Pipe.took g.P.Pipe.counts l.ticket l.has_more l.fn.clients l.clients
