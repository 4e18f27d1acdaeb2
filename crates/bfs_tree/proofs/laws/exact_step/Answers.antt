use Rattle.bfs_tree.proofs.Rounds.{exact_distance, exact_parent}
use Rattle.bfs_tree.proofs.laws.exact_step.Goals as goal

pub returns-clause-distance : goal.returns-clause-distance
returns-clause-distance c = λ net v copied ok l h. exact_distance net (c.tree.ensures.known net ok) (c.neighbours.ensures.joined net) (λ v w. c.joined.ensures.nodes net v w ok) v copied l h

pub returns-clause-parent : goal.returns-clause-parent
returns-clause-parent c = λ net v copied ok l h. exact_parent net (c.tree.ensures.known net ok) (c.neighbours.ensures.joined net) (λ v w. c.joined.ensures.nodes net v w ok) v copied l h
