-- What the writers of a node ask for, and what they make of its state.
use Rattle.std.specs.Prelude.{ℕ, Bool, ◌&&◌, nat_le, Option}
use Rattle.registers.specs.topology.At.{at}
use Rattle.registers.specs.topology.Ranges.{parent_fits}
use Rattle.registers.specs.topology.declared.frame.Ranges.{Ranges}
use Rattle.registers.specs.data_link.Port.{PortState}
use Rattle.node_core.specs.State.{LocalState}

-- a distance is at most the number of nodes, and a parent is none or a node
abbrev pub own_fits : Ranges → ℕ → Option ℕ → Bool
own_fits ranges distance parent = nat_le distance ranges.nodes && parent_fits ranges.nodes parent

-- the state with p as the port to w
abbrev pub with_port : LocalState → ℕ → PortState → LocalState
with_port s w p = record s { port = at s.port w p }
