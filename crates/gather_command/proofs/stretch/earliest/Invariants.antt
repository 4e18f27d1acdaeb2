use Rattle.std.proofs.Common.{◌≡◌, take}
use Rattle.gather_command.specs.View.{heads_in}
use Rattle.gather_command.specs.Stretch.{least_of}
use Rattle.gather_command.proofs.stretch.earliest.Given as goal

abbrev pub invariant-loop-node : goal.invariant-loop-node
invariant-loop-node g l = l.least ≡ least_of (heads_in (take l.node-index l.nodes))
