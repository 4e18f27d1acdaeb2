-- What contracts see of a node: its parts as data, and how they are read as what it knows of its
-- network and as its state.
use Rattle.std.specs.Prelude.{ℕ, ◌<◌, ◌≤◌, Bool, Option, IsTrue}
use Rattle.registers.specs.topology.Ranges.{parent_fits}
use Rattle.registers.specs.Registers.{RegistersView, port_of, value_of}
use Rattle.lock_desk.specs.View.{DeskView}
use Rattle.node_core.specs.Site.{Site}
use Rattle.node_core.specs.State.{LocalState}

-- a node's parts
pub record NodeView : Type 0 where
  pub id : ℕ
  pub is_root : Bool
  pub distance : ℕ
  pub parent : Option ℕ
  pub registers : RegistersView
  pub desk : DeskView

-- what the node knows of its network
abbrev pub site_in : NodeView → Site
site_in v = record {
  id = v.id;
  is_root = v.is_root;
  ranges = v.registers.ranges;
  lease = v.desk.lease;
  neighbours = v.registers.neighbours;
}

-- its state
abbrev pub state_of : NodeView → LocalState
state_of v = record {
  distance = v.distance;
  parent = v.parent;
  port = port_of v.registers;
  value = value_of v.registers;
  desk = v.desk.state;
}

-- A node's id, distance and parent are in their ranges; its registers and its desk see to
-- themselves.
pub record IsOwnInRange (v : NodeView) : Type 0 where
  pub id : v.id < v.registers.ranges.nodes
  pub distance : v.distance ≤ v.registers.ranges.nodes
  pub parent : IsTrue (parent_fits v.registers.ranges.nodes v.parent)
