use Rattle.convergence.proofs.Desks.{loan-event}
use Rattle.convergence.proofs.Whole.{desks-turn_privileged}
use Rattle.convergence.proofs.laws.desks.Goals as goal

pub returns-clause-loans_stay : goal.returns-clause-loans_stay
returns-clause-loans_stay c = loan-event c.below.ensures

pub returns-clause-turns : goal.returns-clause-turns
returns-clause-turns c = desks-turn_privileged c.below.ensures
