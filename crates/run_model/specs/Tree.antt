-- How much of the tree of distances and parents is right (Dolev, Israeli, Moran 1993).
use Rattle.std.specs.Prelude.{◌≡◌, ℕ, ◌<◌, IsTrue}
use Rattle.link_model.specs.topology.Network.{are_joined}
use Rattle.link_model.specs.topology.Tree.{distance_of, parent_of}
use Rattle.link_model.specs.topology.declared.frame.Payload.{Payload}
use Rattle.node_core.specs.bfs_tree.Stage.{is_of_stage}
use Rattle.run_model.specs.World.{World}

-- Stage k of the tree: every distance written for a node is exact if its true distance is below k,
-- and otherwise at least k. It is written in three places: at the node itself, staged at each of
-- its ports, and copied at each of its neighbours.
pub record IsTreeAtStage (k : ℕ) (w : World) : Type 0 where
  pub own : (v : ℕ) → v < w.net.nodes → IsTrue (is_of_stage k (distance_of w.net v) (w.node v).distance)
  pub staged : (v u : ℕ) → IsTrue (are_joined w.net.edges v u) → IsTrue (is_of_stage k (distance_of w.net v) ((w.node v).port u).staged.distance)
  pub copied : (v u : ℕ) → IsTrue (are_joined w.net.edges v u) → IsTrue (is_of_stage k (distance_of w.net v) ((w.node u).port v).copy.distance)

-- the payload shows the true distance and the true parent of v
pub record IsTrueOf (w : World) (v : ℕ) (p : Payload) : Type 0 where
  pub distance : p.distance ≡ distance_of w.net v
  pub parent : p.parent ≡ parent_of w.net v

-- The tree is reached: every node, staged payload and copy shows the true distance and the true
-- parent of its node.
pub record IsTreeReached (w : World) : Type 0 where
  pub distance : (v : ℕ) → v < w.net.nodes → (w.node v).distance ≡ distance_of w.net v
  pub parent : (v : ℕ) → v < w.net.nodes → (w.node v).parent ≡ parent_of w.net v
  pub staged : (v u : ℕ) → IsTrue (are_joined w.net.edges v u) → IsTrueOf w v ((w.node v).port u).staged
  pub copied : (v u : ℕ) → IsTrue (are_joined w.net.edges v u) → IsTrueOf w v ((w.node u).port v).copy
