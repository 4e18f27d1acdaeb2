use Rattle.std.proofs.Common.{◌≡◌, ◌≤◌, length}
use Rattle.node_connections.proofs.Rooms.{HaveRoom}
use Rattle.node_connections.proofs.clients.Clients.new.Given as goal

abbrev pub invariant-loop : goal.invariant-loop
invariant-loop g l = (length l.answers.items ≡ l.counter) × (128 ≤ l.answers.cap) × HaveRoom l.counter l.answers.items
