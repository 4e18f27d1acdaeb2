use Rattle.std.proofs.lemmas.List.Kept.{IsStrictlyIncreasing-filter}
use Rattle.topology.specs.Network.{neighbours_of}
use Rattle.euler_ring.proofs.Trees.{edge-of, of-edge, same_view}
use Rattle.euler_ring.proofs.laws.true_view.Goals as goal

pub returns-clause-are : goal.returns-clause-are
returns-clause-are c = λ net v w ok. (
  edge-of net (c.tree.ensures.known net ok) (c.joined.ensures.back net.edges) (λ v w. c.joined.ensures.nodes net v w ok) v w,
  of-edge net (c.tree.ensures.known net ok) (c.joined.ensures.back net.edges) (λ v w. c.joined.ensures.nodes net v w ok) v w,
)

pub returns-clause-ascend : goal.returns-clause-ascend
returns-clause-ascend c = λ net v. IsStrictlyIncreasing-filter _ (neighbours_of net v) (c.neighbours.ensures.ascend net v)

pub returns-clause-own_view : goal.returns-clause-own_view
returns-clause-own_view c = λ net v parent copied ok own theirs. same_view net v parent copied own theirs
