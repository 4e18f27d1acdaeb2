-- The bytes of a node's file, as they are written now.
use Rattle.std.specs.Prelude.{ℕ, List}
use Rattle.topology.specs.Network.{Network, neighbours_of}
use Rattle.node_core.specs.State.{LocalState}
use Rattle.state_writing.specs.Spelling.{spelling}
use Rattle.state_writing.specs.declared.layout.FileLayout.TheVariants.{Tkt2}

-- the file of node `id` of a network with this state: the newer spelling, with its neighbours there
abbrev pub file_of : Network → ℕ → LocalState → List ℕ
file_of net id s = spelling Tkt2 net id (neighbours_of net id) s
