use Rattle.weaving.proofs.Weaving.{woven-is-run}
use Rattle.weaving.proofs.laws.weave.Goals as goal

pub returns : goal.returns
returns c = woven-is-run c.joined.ensures.nodes
