use Rattle.experiments.proofs.Plans.{plan-accepted}
use Rattle.experiments.proofs.laws.accepted.Goals as goal

pub returns : goal.returns
returns c net scramble loan order ok =
    plan-accepted c.start.ensures net ok c.runs.ensures.network c.scramble.ensures.accepted c.scramble.ensures.network c.draws.ensures
    c.accepted.ensures.accepted c.accepted.ensures.undamaged (c.edges.ensures net ok) scramble loan order
