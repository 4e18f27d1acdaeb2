use Rattle.std.proofs.Common.{◌≡◌}
use Rattle.std.specs.List.{range_with_len}
use Rattle.status_command.proofs.check.nodes_of.Given as goal

-- the nodes below this one are there
abbrev pub invariant-loop-node : goal.invariant-loop-node
invariant-loop-node l = l.nodes.items ≡ range_with_len 0 l.node
