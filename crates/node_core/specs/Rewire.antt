-- What becomes of a node if its neighbours change.
use Rattle.std.specs.Prelude.{ℕ, List}
use Rattle.registers.specs.topology.declared.frame.Ranges.{Ranges}
use Rattle.registers.specs.Rewire.{rewired_ports, rewired_values}
use Rattle.node_core.specs.State.{LocalState}

-- the port and the value of a neighbour that stays are kept whole, those of a new one and of one
-- that is gone are as at the start; distance, parent and desk stay
abbrev pub rewired : Ranges → (old new : List ℕ) → LocalState → LocalState
rewired ranges old new s =
    record s { port = rewired_ports ranges old new s.port; value = rewired_values old new s.value }
