use Rattle.std.proofs.Common.{take}
use Rattle.node_connections.specs.Lives.{LiveOn, OthersStay}
use Rattle.node_connections.specs.Said.{IsServedAlone}
use Rattle.node_service.specs.Serving.{Serves}
use Rattle.node_service.proofs.service.serve_bytes.Given as goal

abbrev pub invariant-loop-byte : goal.invariant-loop-byte
invariant-loop-byte g l =
    Serves g.P.Pipe.took (IsServedAlone g.P.Pipe.gave g.P.Pipe.took g.P.Pipe.counts l.fn.clients l.clients l.fn.ticket (take l.byte-index l.bytes)) l.fn.node l.node l.fn.notes l.notes l.fn.clients l.clients
    × LiveOn g.P.Pipe.gave g.P.Pipe.took g.P.Pipe.counts l.fn.clients l.clients × OthersStay l.fn.ticket l.fn.clients l.clients
