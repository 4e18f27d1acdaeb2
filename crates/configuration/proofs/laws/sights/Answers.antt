use Rattle.configuration.proofs.Sights.{sights-decide}
use Rattle.configuration.proofs.laws.sights.Goals as goal

pub returns : goal.returns
returns c = sights-decide c.own_changes.ensures.node c.runs.ensures.network
