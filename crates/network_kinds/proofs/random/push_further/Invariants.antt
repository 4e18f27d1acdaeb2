use Rattle.std.proofs.Common.{◌≡◌, ◌++◌, ◌-◌}
use Rattle.network_kinds.specs.Random.{further_edges}
use Rattle.network_kinds.proofs.random.push_further.Given as goal

-- what was drawn, and what is still to be drawn
abbrev pub invariant-loop-i : goal.invariant-loop-i
invariant-loop-i g l =
    l.edges.items ++ further_edges (l.count - l.i) l.left.items l.generator
    ≡ l.fn.edges.items ++ further_edges l.count l.fn.left.items l.fn.generator
