use Rattle.convergence.proofs.Answered.{settled-stays}
use Rattle.convergence.proofs.ring_laws.settled.Goals as goal

pub returns : goal.returns
returns c = settled-stays c.below.ensures
