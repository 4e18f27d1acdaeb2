use Rattle.convergence.proofs.Answered.{ring-stays_good, ring-turns_good, ring-turns_good_soon}
use Rattle.convergence.proofs.ring_laws.ring.Goals as goal

pub returns : goal.returns
returns c = let below = c.below.ensures in record {
  stays = ring-stays_good below;
  turns = ring-turns_good below;
  turns_soon = ring-turns_good_soon below;
}
