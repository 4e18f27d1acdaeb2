use Rattle.std.proofs.Common.{◌≡◌}
use Rattle.network_kinds.specs.Random.{tree_edges}
use Rattle.network_kinds.proofs.random.tree_edges.Given as goal

abbrev pub invariant-loop-k : goal.invariant-loop-k
invariant-loop-k g l = (l.tree.items, l.generator) ≡ tree_edges l.k l.fn.generator
