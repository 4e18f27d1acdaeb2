use Rattle.std.proofs.Common.{◌≡◌, take}
use Rattle.gather_command.specs.Records.{flaws_in}
use Rattle.gather_command.proofs.weaving.flaws_in.Given as goal

abbrev pub invariant-loop-node : goal.invariant-loop-node
invariant-loop-node g l = l.flaws.items ≡ flaws_in (take l.node-index l.nodes)
