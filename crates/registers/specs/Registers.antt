-- The registers of a node: what it keeps about every other node, by that node's id.
use Rattle.std.specs.Prelude.{◌≡◌, ℕ, ◌<◌, ◌≤◌, Bool, IsTrue, if◌then◌else◌, List, length, All, Contains, slice_index_or, slice_index}
use Rattle.std.specs.List.Sorted.{IsStrictlyIncreasing}
use Rattle.data_link.specs.topology.declared.frame.Ranges.{Ranges}
use Rattle.data_link.specs.Port.{PortState, PortView, port_fits, default_port}

-- The ranges of all fields, the ids of the neighbours, ascending, and for each node id a port to
-- that node and the value of the machine that comes in from it.
pub record RegistersView : Type 0 where
  pub ranges : Ranges
  pub neighbours : List ℕ
  pub ports : List PortView
  pub values : List ℕ

-- the port to w; beyond the last node, the port that a node starts with
abbrev pub port_of : RegistersView → ℕ → PortState
port_of r w =
    (slice_index_or r.ports w (record { ranges = r.ranges; state = default_port r.ranges })).state

-- the value of the machine that comes in from w; beyond the last node, 0
abbrev pub value_of : RegistersView → ℕ → ℕ
value_of r w = slice_index r.values w

-- a port as it is, or as at the start
abbrev pub port_or_new : (forgotten : Bool) → PortView → PortView
port_or_new forgotten p = if forgotten then record p { state = default_port p.ranges } else p

-- a port of these ranges, in range
pub record IsPortOf (ranges : Ranges) (p : PortView) : Type 0 where
  pub same : p.ranges ≡ ranges
  pub fits : IsTrue (port_fits ranges p.state)

-- At most 64 nodes, and one place for each; each port and value is in its range; the neighbours are
-- nodes, ascending; and the place of a node that is no neighbour is as at the start.
pub record IsRegisters (r : RegistersView) : Type 0 where
  pub most : r.ranges.nodes ≤ 64
  pub some_values : 0 < r.ranges.ring
  pub ports : length r.ports ≡ r.ranges.nodes
  pub values : length r.values ≡ r.ranges.nodes
  pub ports_fit : All (IsPortOf r.ranges) r.ports
  pub values_fit : All (λ x. x < r.ranges.ring) r.values
  pub neighbours_in : All (λ w. w < r.ranges.nodes) r.neighbours
  pub ascending : IsStrictlyIncreasing r.neighbours
  pub other_ports : (w : ℕ) → ¬ Contains r.neighbours w → port_of r w ≡ default_port r.ranges
  pub other_values : (w : ℕ) → ¬ Contains r.neighbours w → value_of r w ≡ 0
