-- The links of a world.
use Rattle.std.specs.Prelude.{ℕ, IsTrue}
use Rattle.link_model.specs.topology.Network.{are_joined}
use Rattle.node_core.specs.data_link.Edge.{IsStable}
use Rattle.run_model.specs.World.{World}
use Rattle.run_model.specs.Project.{edge_of}

-- every link is stable, in both directions
abbrev pub AreLinksStable : World → Type 0
AreLinksStable w = (u v : ℕ) → IsTrue (are_joined w.net.edges u v) → IsStable w.net.capacity (edge_of w u v)
