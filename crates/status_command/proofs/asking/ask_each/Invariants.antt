use Rattle.std.proofs.Common.{◌≡◌, ◌++◌, take}
use Rattle.status_command.specs.Asking.{nodes_in}
use Rattle.status_command.proofs.asking.ask_each.Given as goal

-- the nodes up to this one were asked
abbrev pub invariant-loop-node : goal.invariant-loop-node
invariant-loop-node g l = nodes_in l.all.items ≡ nodes_in l.initial.all.items ++ take l.node-index l.nodes
