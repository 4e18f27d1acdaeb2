use Rattle.convergence.proofs.Whole.{links-converge, tree-converges, ring-converges, world-converges, headline}
use Rattle.convergence.proofs.SaidWithin.{payloads-converge}
use Rattle.convergence.proofs.laws.converge.Goals as goal

pub returns : goal.returns
returns c = let below = c.below.ensures in record {
  links = links-converge below;
  payloads = payloads-converge below;
  tree = tree-converges below;
  token_ring = ring-converges below;
  world = world-converges below;
  headline = headline below;
}
