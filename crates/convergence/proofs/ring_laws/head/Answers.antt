use Rattle.convergence.proofs.Answered.{ring-runs, moves-turn_good, head-moves}
use Rattle.convergence.proofs.ring_laws.head.Goals as goal

pub returns : goal.returns
returns c = let below = c.below.ensures in record {
  runs = ring-runs below;
  moves_turn_good = moves-turn_good below;
  moves = head-moves below;
}
