-- What is said of the layers of a world.
use Rattle.std.specs.Prelude.{◌≡◌, ◌↔◌, ℕ, ◌+◌, ◌<◌, IsTrue, length}
use Rattle.topology.specs.Eccentricity.{eccentricity_of}
use Rattle.configuration.specs.run_model.World.{World}
use Rattle.configuration.specs.run_model.Privilege.{is_privileged, is_lending}
use Rattle.configuration.specs.run_model.Tree.{IsTreeReached}
use Rattle.convergence.specs.Ring.{IsTokenRingGood}
use Rattle.convergence.specs.Legitimate.{IsLegitimate}
use Rattle.layers.specs.Links.{AreSuch, IsLinkStable, links_of}
use Rattle.layers.specs.Stages.{IsStageOf}
use Rattle.layers.specs.declared.whole.Layers.{Layers}

-- each node that lends is privileged
abbrev pub AreLoansPrivileged : World → Type 0
AreLoansPrivileged w = (v : ℕ) → v < w.net.nodes → IsTrue (is_lending w v) → IsTrue (is_privileged w v)

-- Each layer holds exactly if it is said to hold: how many of the links are stable, which stage the
-- distances are at, whether the tree is reached, the token ring good, each loan privileged, and the
-- world legitimate.
pub record AreLayersOf (w : World) (layers : Layers) : Type 0 where
  pub links : layers.links ≡ length (links_of w.net)
  pub stable : AreSuch (IsLinkStable w) (links_of w.net) layers.stable
  pub last_stage : layers.last_stage ≡ eccentricity_of w.net + 1
  pub stage : IsStageOf w layers.stage
  pub tree : IsTrue layers.tree ↔ IsTreeReached w
  pub ring : IsTrue layers.ring ↔ IsTokenRingGood w
  pub loans : IsTrue layers.loans ↔ AreLoansPrivileged w
  pub legitimate : IsTrue layers.legitimate ↔ IsLegitimate w
