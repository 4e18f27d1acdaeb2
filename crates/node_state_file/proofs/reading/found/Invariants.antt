use Rattle.std.proofs.Common.{◌≡◌, drop}
use Rattle.node_state_file.specs.Reading.{found}
use Rattle.node_state_file.proofs.reading.found.Given as goal

-- it stands among the ports that are left
abbrev pub invariant-loop-port : goal.invariant-loop-port
invariant-loop-port l = found l.ports l.neighbour ≡ found (drop l.port-index l.ports) l.neighbour
