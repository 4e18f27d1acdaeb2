use Rattle.bfs_tree.proofs.Rounds.{rises}
use Rattle.bfs_tree.proofs.laws.one_round.Goals as goal

pub returns-clause-rises : goal.returns-clause-rises
returns-clause-rises c = λ net k v copied ok l h. rises net (c.tree.ensures.known net ok) (c.neighbours.ensures.joined net) (λ v w. c.joined.ensures.nodes net v w ok) k v copied l h
