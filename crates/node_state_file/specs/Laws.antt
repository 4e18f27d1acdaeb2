-- Laws of state files.
use Rattle.std.specs.Prelude.{◌≡◌, ℕ, ◌<◌, ◌≤◌, ◌&&◌, IsTrue, nat_lt, not, ◌==◌, List, length, All, Ok}
use Rattle.std.specs.List.{list_all}
use Rattle.topology.specs.Network.{Network, neighbours_of, IsAcceptedNetwork}
use Rattle.topology.specs.Ranges.{ranges_of}
use Rattle.state_writing.specs.node_core.data_link.Port.{port_fits}
use Rattle.state_writing.specs.node_core.lock_desk.Desk.{no_desk}
use Rattle.state_writing.specs.node_core.State.{LocalState}
use Rattle.state_writing.specs.node_core.Writes.{own_fits}
use Rattle.state_writing.specs.node_core.Rewire.{rewired}
use Rattle.state_writing.specs.Spelling.{spelling, written}
use Rattle.node_state_file.specs.Reading.{are_ascending, decoded}
use Rattle.state_writing.specs.declared.layout.FileLayout.{FileLayout}
use Rattle.state_writing.specs.declared.layout.FileLayout.TheVariants.{Tkt2}

-- These may have been a node's neighbours: other nodes in ascending order, at least one, and fewer
-- than there are nodes.
pub record MayBeNeighbours (nodes id : ℕ) (ids : List ℕ) : Type 0 where
  pub some : 1 ≤ length ids
  pub few : length ids < nodes
  pub ascending : IsTrue (are_ascending ids)
  pub others : IsTrue (list_all (λ w. nat_lt w nodes && not (w == id)) ids)

-- Distance and parent are in range, and so are the ports to these neighbours, and the values of the
-- machines that come in from there.
pub record IsSavable (net : Network) (ids : List ℕ) (s : LocalState) : Type 0 where
  pub own : IsTrue (own_fits (ranges_of net) s.distance s.parent)
  pub ports : All (λ w. IsTrue (port_fits (ranges_of net) (s.port w))) ids
  pub values : All (λ w. s.value w < (ranges_of net).ring) ids

-- each spelling of a state in range, with whatever neighbours, is read as that state, re-matched to
-- the neighbours of the network, with an empty desk
abbrev pub SpellingsAreRead : Type 0
SpellingsAreRead = (net : Network) (id : ℕ) (layout : FileLayout) (ids : List ℕ) (s : LocalState) → IsAcceptedNetwork net → id < net.nodes
    → MayBeNeighbours net.nodes id ids → IsSavable net ids s
    → decoded net id (spelling layout net id ids s) ≡ Ok (record (rewired (ranges_of net) ids (neighbours_of net id) s) { desk = no_desk })

-- The bytes are the spelling of a state in range, with these other nodes as its neighbours; and
-- what is read is that state, re-matched to the neighbours of the network, with an empty desk.
pub record IsSpelled (net : Network) (id : ℕ) (bytes : List ℕ) (s : LocalState) : Type 0 where
  pub layout : FileLayout
  pub ids : List ℕ
  pub saved : LocalState
  pub neighbours : MayBeNeighbours net.nodes id ids
  pub range : IsSavable net ids saved
  pub bytes_are : bytes ≡ spelling layout net id ids saved
  pub read : s ≡ record (rewired (ranges_of net) ids (neighbours_of net id) saved) { desk = no_desk }

-- bytes that are read as a state are the spelling of one in range
abbrev pub WhatIsReadIsSpelled : Type 0
WhatIsReadIsSpelled =
    (net : Network) (id : ℕ) (bytes : List ℕ) (s : LocalState) → All (λ b. b < 256) bytes → decoded net id bytes ≡ Ok s → IsSpelled net id bytes s

-- in the layout that is written, and with the neighbours of the network, a state that was read is
-- written as the very same bytes
abbrev pub WhatIsReadIsWrittenAgain : Type 0
WhatIsReadIsWrittenAgain =
    (net : Network) (id : ℕ) (bytes : List ℕ) (s : LocalState) (f : IsSpelled net id bytes s) → f.layout ≡ Tkt2 → f.ids ≡ neighbours_of net id
    → written net id (neighbours_of net id) s ≡ bytes
