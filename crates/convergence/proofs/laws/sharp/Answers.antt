use Rattle.convergence.proofs.Whole.{links-converge_sooner, tree-converges_sooner, ring-converges_sooner, world-converges_sooner, sharp-headline}
use Rattle.convergence.proofs.laws.sharp.Goals as goal

pub returns : goal.returns
returns c = let below = c.below.ensures in record {
  links = links-converge_sooner below;
  tree = tree-converges_sooner below;
  token_ring = ring-converges_sooner below;
  world = world-converges_sooner below;
  headline = sharp-headline below;
}
