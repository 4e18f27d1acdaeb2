-- The tree node by node, and the stage that it is at.
use Rattle.std.specs.Prelude.{◌≡◌, ℕ, ◌+◌, ◌<◌, ◌≤◌, IsTrue}
use Rattle.topology.specs.Network.{are_joined}
use Rattle.topology.specs.Eccentricity.{eccentricity_of}
use Rattle.topology.specs.Tree.{distance_of, parent_of}
use Rattle.configuration.specs.run_model.World.{World}
use Rattle.configuration.specs.run_model.Tree.{IsTreeAtStage, IsTrueOf}
use Rattle.configuration.specs.run_model.node_core.bfs_tree.Stage.{is_of_stage}

-- what v has staged for u, and u has copied, of v's distance is of stage k
abbrev pub IsLinkAtStage : ℕ → World → ℕ → ℕ → Type 0
IsLinkAtStage k w v u =
    IsTrue (is_of_stage k (distance_of w.net v) ((w.node v).port u).staged.distance)
    × IsTrue (is_of_stage k (distance_of w.net v) ((w.node u).port v).copy.distance)

-- and so it is for each neighbour
abbrev pub AreLinksAtStage : ℕ → World → ℕ → Type 0
AreLinksAtStage k w v = (u : ℕ) → IsTrue (are_joined w.net.edges v u) → IsLinkAtStage k w v u

-- and so is v's own distance
abbrev pub IsNodeAtStage : ℕ → World → ℕ → Type 0
IsNodeAtStage k w v =
    IsTrue (is_of_stage k (distance_of w.net v) (w.node v).distance) × AreLinksAtStage k w v

-- The tree is at this stage and at no greater one, up to one more than the greatest distance: at
-- that stage each distance is exact, and so it is at all greater stages.
pub record IsStageOf (w : World) (k : ℕ) : Type 0 where
  pub reached : IsTreeAtStage k w
  pub within : k ≤ eccentricity_of w.net + 1
  pub greatest : (next : ℕ) → k < next → next ≤ eccentricity_of w.net + 1 → IsTreeAtStage next w → ⊥

-- what v has staged for u, and u has copied, shows v's true distance and parent
abbrev pub IsLinkTrue : World → ℕ → ℕ → Type 0
IsLinkTrue w v u = IsTrueOf w v ((w.node v).port u).staged × IsTrueOf w v ((w.node u).port v).copy

-- and so it is for each neighbour
abbrev pub AreLinksTrue : World → ℕ → Type 0
AreLinksTrue w v = (u : ℕ) → IsTrue (are_joined w.net.edges v u) → IsLinkTrue w v u

-- and so does the node itself
abbrev pub IsNodeTrue : World → ℕ → Type 0
IsNodeTrue w v =
    ((w.node v).distance ≡ distance_of w.net v) × ((w.node v).parent ≡ parent_of w.net v)
    × AreLinksTrue w v
