use Rattle.std.proofs.Common.{◌≡◌, [], replicate}
use Rattle.record_gathering.proofs.gathering.new_queues.Given as goal

abbrev pub invariant-loop-node : goal.invariant-loop-node
invariant-loop-node g l = l.queues.items ≡ replicate l.node []
