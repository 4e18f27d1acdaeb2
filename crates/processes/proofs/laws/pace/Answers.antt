use Rattle.processes.proofs.TurnWindows.{pace-gives-windows}
use Rattle.processes.proofs.laws.pace.Goals as goal

pub returns : goal.returns
returns c = pace-gives-windows c.joined.ensures.nodes
