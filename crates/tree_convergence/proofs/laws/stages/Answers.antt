use Rattle.tree_convergence.proofs.Stages.{stage-stays, stage-rises}
use Rattle.tree_convergence.proofs.laws.stages.Goals as goal

pub returns-clause-stay : goal.returns-clause-stay
returns-clause-stay c =
    stage-stays c.runs.ensures.network c.joined.ensures.back c.one_round.ensures.rises c.one_round.ensures.includes c.joined.ensures.nodes
    c.payloads.ensures.staged c.payloads.ensures.copied

pub returns-clause-rise : goal.returns-clause-rise
returns-clause-rise c =
    stage-rises c.runs.ensures.network c.joined.ensures.back c.one_round.ensures.rises c.one_round.ensures.includes c.joined.ensures.nodes
    c.payloads.ensures.staged c.payloads.ensures.copied c.in_range.ensures c.links.ensures.stay c.payloads.ensures.turn_fresh
    c.runs.ensures.undamaged_splits c.runs.ensures.join
