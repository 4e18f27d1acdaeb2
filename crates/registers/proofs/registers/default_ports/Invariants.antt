use Rattle.std.proofs.Common.{◌≡◌, replicate, ◌≤◌}
use Rattle.std.specs.Vec.{vec_capacity}
use Rattle.data_link.specs.topology.Ranges.{ranges_of}
use Rattle.data_link.specs.Port.{default_port}
use Rattle.registers.proofs.registers.default_ports.Given as goal

abbrev pub invariant-loop : goal.invariant-loop
invariant-loop g l =
    (l.ports.items ≡ replicate l.counter (record { ranges = ranges_of l.net; state = default_port (ranges_of l.net) }))
    × (l.net.nodes ≤ vec_capacity l.ports)
