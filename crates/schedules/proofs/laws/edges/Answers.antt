use Rattle.schedules.proofs.Edges.{has-edge}
use Rattle.schedules.proofs.laws.edges.Goals as goal

pub returns : goal.returns
returns c net ok = has-edge net (c.tree.ensures.known net ok) ok.limits.two
