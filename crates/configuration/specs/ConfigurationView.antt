-- What contracts see of a world: its parts as data, and how they are read as functions of the
-- nodes' ids.
use Rattle.std.specs.Prelude.{◌≡◌, ℕ, ◌<◌, false, if◌then◌else◌, nat_lt, List, [], None, length, slice_index_or}
use Rattle.topology.specs.Network.{Network}
use Rattle.topology.specs.Ranges.{ranges_of}
use Rattle.run_model.specs.node_core.Site.{site_of}
use Rattle.run_model.specs.node_core.State.{LocalState, default_node}
use Rattle.run_model.specs.node_core.View.{NodeView, site_in, state_of}
use Rattle.run_model.specs.node_core.lock_desk.Desk.{no_desk}
use Rattle.run_model.specs.World.{World}
use Rattle.configuration.specs.LinksView.{LinksView, spare_pairs, under_way}

-- the nodes by their ids, and the links between them, which know the network
pub record ConfigurationView : Type 0 where
  pub nodes : List NodeView
  pub links : LinksView

-- stands for a node at a place without one
abbrev pub no_node : NodeView
no_node = record {
  id = 0;
  is_root = false;
  distance = 0;
  parent = None;
  registers = record { ranges = record { nodes = 0; counter = 0; ring = 0 }; neighbours = []; ports = []; values = [] };
  desk = record { lease = 0; state = no_desk };
}

-- the node with id v
abbrev pub node_at : List NodeView → ℕ → NodeView
node_at nodes v = slice_index_or nodes v no_node

-- the nodes' states as a function of their ids; past the last node it is the state of a fresh node
abbrev pub states_of : Network → List NodeView → ℕ → LocalState
states_of net nodes v = if nat_lt v net.nodes then state_of (node_at nodes v) else default_node (ranges_of net)

-- the world of a configuration
abbrev pub world_of : ConfigurationView → World
world_of w = record { net = w.links.net; spares = spare_pairs w.links; node = states_of w.links.net w.nodes; link = under_way w.links }

-- there is a node for each id, and each knows its own site
pub record AreNodesOf (net : Network) (nodes : List NodeView) : Type 0 where
  pub all_nodes : length nodes ≡ net.nodes
  pub sites : (v : ℕ) → v < net.nodes → site_in (node_at nodes v) ≡ site_of net v
