use Rattle.desk_sockets.specs.DeskSockets.{names_in}
use Rattle.desk_sockets.proofs.Finding.{AreFound}
use Rattle.desk_sockets.proofs.sockets.nodes_among.Given as goal

abbrev pub invariant-loop-entry : goal.invariant-loop-entry
invariant-loop-entry g l = AreFound (names_in l.yielded) l.nodes.items
