-- Worlds whose tree carries the token ring.
use Rattle.run_model.specs.World.{World, IsWorldInRange}
use Rattle.run_model.specs.Tree.{IsTreeReached}
use Rattle.run_model.specs.Links.{AreLinksStable}

-- a world is settled if it is in range, every link is stable, and the tree is reached
pub record IsSettled (w : World) : Type 0 where
  pub range : IsWorldInRange w
  pub links : AreLinksStable w
  pub tree : IsTreeReached w
