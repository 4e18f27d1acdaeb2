use Rattle.configuration.specs.ConfigurationView.{world_of}
use Rattle.record_gathering.proofs.Orders.{IsFirst}
use Rattle.record_gathering.proofs.order.next_node.Given as goal

abbrev pub invariant-loop-node : goal.invariant-loop-node
invariant-loop-node g l = IsFirst (world_of l.world) l.heads l.node l.first
