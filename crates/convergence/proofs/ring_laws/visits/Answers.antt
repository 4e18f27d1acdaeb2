use Rattle.convergence.proofs.Answered.{privilege-goes_round, privilege-visits, machines-move}
use Rattle.convergence.proofs.ring_laws.visits.Goals as goal

pub returns : goal.returns
returns c = let below = c.below.ensures in record {
  in_two_moves = privilege-goes_round below;
  in_sweeps = privilege-visits below;
  machines = machines-move below;
}
