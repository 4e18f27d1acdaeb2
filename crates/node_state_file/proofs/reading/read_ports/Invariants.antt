use Rattle.std.proofs.Common.{◌≡◌, length}
use Rattle.node_state_file.specs.Reading.{ports_in}
use Rattle.node_state_file.proofs.reading.read_ports.Given as goal

-- the ports in front are those of the bytes
abbrev pub invariant-loop-at : goal.invariant-loop-at
invariant-loop-at l = (l.ports.items ≡ ports_in l.at l.bytes) × (length l.ports.items ≡ l.at)
