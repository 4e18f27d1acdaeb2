use Rattle.damage_tool.proofs.Accepted.{draw-below}
use Rattle.damage_tool.proofs.laws.draws.Goals as goal

pub returns : goal.returns
returns c = draw-below
