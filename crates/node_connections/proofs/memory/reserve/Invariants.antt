use Rattle.std.proofs.Common.{◌≡◌, ◌≤◌, length, []}
use Rattle.node_connections.specs.Loose.{AreLoose}
use Rattle.node_connections.proofs.memory.reserve.Given as goal

abbrev pub invariant-loop : goal.invariant-loop
invariant-loop g l = (length l.ports.items ≡ l.counter) × (l.nodes ≤ l.ports.cap) × AreLoose [] l.ports.items
