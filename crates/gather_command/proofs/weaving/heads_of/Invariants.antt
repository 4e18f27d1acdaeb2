use Rattle.std.proofs.Common.{◌≡◌, take}
use Rattle.gather_command.specs.View.{heads_in}
use Rattle.gather_command.proofs.weaving.heads_of.Given as goal

abbrev pub invariant-loop-node : goal.invariant-loop-node
invariant-loop-node g l = l.heads.items ≡ heads_in (take l.node-index l.nodes)
