use Rattle.std.proofs.Common.{◌≡◌, ◌≤◌, ◌-◌}
use Rattle.node_state_file.specs.Reading.{are_ascending, ids_of}
use Rattle.node_state_file.proofs.Ascending.{ascends_from}
use Rattle.node_state_file.proofs.reading.are_ascending.Given as goal

-- the ports before this one ascend
abbrev pub invariant-loop-at : goal.invariant-loop-at
invariant-loop-at l = (1 ≤ l.at) × (are_ascending (ids_of l.ports) ≡ ascends_from l.ports (l.at - 1))
