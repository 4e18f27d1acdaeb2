use Rattle.std.proofs.Common.{◌≡◌, ◌++◌}
use Rattle.network_kinds.specs.Kinds.{pairs, pairs_with}
use Rattle.network_kinds.proofs.kind.pairs.Given as goal

abbrev pub invariant-loop-v : goal.invariant-loop-v
invariant-loop-v g l = l.all.items ≡ pairs l.v

abbrev pub invariant-loop-u : goal.invariant-loop-u
invariant-loop-u g l = l.all.items ≡ pairs l.v ++ pairs_with l.v l.u
