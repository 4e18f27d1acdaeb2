use Rattle.tree_convergence.proofs.Parents.{parents-turn}
use Rattle.tree_convergence.proofs.laws.parents.Goals as goal

pub returns : goal.returns
returns c =
    parents-turn c.runs.ensures.network c.in_range.ensures c.runs.ensures.undamaged_splits c.runs.ensures.join c.joined.ensures.back c.joined.ensures.nodes
    c.one_round.ensures.last c.exact_step.ensures.parent c.links.ensures.stay c.stages.ensures.stay c.payloads.ensures.turn_fresh
