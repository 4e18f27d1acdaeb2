use Rattle.run_model.proofs.Ranges.{start-range}
use Rattle.run_model.proofs.laws.start.Goals as goal

pub returns : goal.returns
returns c = start-range
