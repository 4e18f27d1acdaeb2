use Rattle.tree_convergence.proofs.Parents.{tree-stays}
use Rattle.tree_convergence.proofs.Sums.{tree-reached, tree-reached_by_depth}
use Rattle.tree_convergence.proofs.laws.tree.Goals as goal

pub returns-clause-stay : goal.returns-clause-stay
returns-clause-stay c =
    tree-stays c.runs.ensures.network c.in_range.ensures c.runs.ensures.undamaged_splits c.runs.ensures.join c.joined.ensures.back c.joined.ensures.nodes
    c.one_round.ensures.last c.exact_step.ensures.parent c.links.ensures.stay c.stages.ensures.stay c.payloads.ensures.staged c.payloads.ensures.copied

pub returns-clause-reached : goal.returns-clause-reached
returns-clause-reached c =
    tree-reached c.runs.ensures.network c.in_range.ensures c.runs.ensures.undamaged_splits c.runs.ensures.join c.sweep_numbers.ensures.split
    c.links.ensures.stay c.stages.ensures.rise c.parents.ensures c.stages.ensures.zero

pub returns-clause-reached_by_depth : goal.returns-clause-reached_by_depth
returns-clause-reached_by_depth c =
    tree-reached_by_depth c.runs.ensures.network c.in_range.ensures c.runs.ensures.undamaged_splits c.runs.ensures.join c.sweep_numbers.ensures.split
    c.links.ensures.stay c.stages.ensures.rise c.parents.ensures c.tree.ensures.known c.joined.ensures.nodes c.eccentricity.ensures.within c.stages.ensures.zero
