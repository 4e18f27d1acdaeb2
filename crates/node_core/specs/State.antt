-- The state of one node, its range, and how it begins.
use Rattle.std.specs.Prelude.{ℕ, ◌<◌, ◌≤◌, Option, None, IsTrue, All}
use Rattle.registers.specs.topology.Ranges.{parent_fits}
use Rattle.registers.specs.topology.declared.frame.Ranges.{Ranges}
use Rattle.registers.specs.data_link.Port.{PortState, port_fits, default_port}
use Rattle.lock_desk.specs.Desk.{DeskState, desk_fits, no_desk}
use Rattle.node_core.specs.Site.{Site}

-- A node's distance and parent; its port to each neighbour and the value of the machine that comes
-- in from there, by the neighbour's id; its lock desk.
pub record LocalState : Type 0 where
  pub distance : ℕ
  pub parent : Option ℕ
  pub port : ℕ → PortState
  pub value : ℕ → ℕ
  pub desk : DeskState

-- Each field is in its range; of the ports and values, only those of neighbours need be.
pub record IsNodeInRange (site : Site) (s : LocalState) : Type 0 where
  pub distance : s.distance ≤ site.ranges.nodes
  pub parent : IsTrue (parent_fits site.ranges.nodes s.parent)
  pub ports : All (λ w. IsTrue (port_fits site.ranges (s.port w))) site.neighbours
  pub values : All (λ w. s.value w < site.ranges.ring) site.neighbours
  pub desk : IsTrue (desk_fits site.lease s.desk)

-- what a node starts with: the greatest distance, no parent, zeros, and an empty desk
abbrev pub default_node : Ranges → LocalState
default_node ranges = record {
  distance = ranges.nodes;
  parent = None;
  port = λ w. default_port ranges;
  value = λ w. 0;
  desk = no_desk;
}
