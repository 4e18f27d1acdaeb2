use Rattle.convergence.proofs.Answered.{one-privileged-node, one-lending-node, privileged-stays}
use Rattle.convergence.proofs.ring_laws.one_token.Goals as goal

pub returns : goal.returns
returns c = let below = c.below.ensures in record {
  privileged = one-privileged-node below;
  lending = one-lending-node below;
  stays = privileged-stays below;
}
