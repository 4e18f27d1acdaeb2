use Rattle.convergence.proofs.Whole.{legitimate-stays, legitimate-serves}
use Rattle.convergence.proofs.laws.closure.Goals as goal

pub returns : goal.returns
returns c = let below = c.below.ensures in record { stays = legitimate-stays below; serves = legitimate-serves below }
