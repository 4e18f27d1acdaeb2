-- Legitimate worlds (Dijkstra 1974; Dolev, Self-Stabilization, 2000).
use Rattle.std.specs.Prelude.{ℕ, ◌<◌, IsTrue}
use Rattle.run_model.specs.World.{World}
use Rattle.run_model.specs.Tree.{IsTreeReached}
use Rattle.run_model.specs.Links.{AreLinksStable}
use Rattle.run_model.specs.Privilege.{is_privileged, is_lending}
use Rattle.convergence.specs.Ring.{IsTokenRingGood}

-- A world is legitimate if every link is stable, the tree is reached, the token ring is good,
-- and each node that lends is privileged.
pub record IsLegitimate (w : World) : Type 0 where
  pub links : AreLinksStable w
  pub tree : IsTreeReached w
  pub ring : IsTokenRingGood w
  pub desks : (v : ℕ) → v < w.net.nodes → IsTrue (is_lending w v) → IsTrue (is_privileged w v)
