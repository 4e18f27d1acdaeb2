-- How a state is spelled: its words, its numbers, and the whole file.
use Rattle.std.proofs.Common.{◌≡◌, ◌≢◌, ℕ, List, [], ◌∷◌, Some, None, refl, arith}
use Rattle.topology.specs.Network.{Network}
use Rattle.topology.specs.Ranges.{ranges_of}
use Rattle.topology.specs.declared.frame.Payload.{Payload}
use Rattle.node_core.specs.data_link.Port.{PortState}
use Rattle.node_core.specs.State.{LocalState, default_node}
use Rattle.state_writing.specs.declared.layout.FileLayout.TheVariants.{Tkt1, Tkt2}
use Rattle.state_writing.specs.Files.{file_of}
use Rattle.state_writing.specs.Spelling.{magic, capacity_numbers, parent_number, header_numbers}
use Rattle.state_writing.specs.Spelling.{payload_numbers, port_numbers, spelling, written}

-- two nodes with a link of capacity 1
abbrev two : Network
two = record { nodes = 2; root = 0; capacity = 1; lease = 0; edges = (0, 1) ∷ [] }

-- the default state of node 1 of the two, in the layout that is written
abbrev newer : List ℕ
newer =
    84 ∷ 75 ∷ 84 ∷ 50 ∷ 0 ∷ 2 ∷ 0 ∷ 1 ∷ 0 ∷ 1 ∷ 0 ∷ 1 ∷ 0 ∷ 2 ∷ 255 ∷ 255
    ∷ 0 ∷ 0 ∷ 0 ∷ 0 ∷ 0 ∷ 0 ∷ 0 ∷ 2 ∷ 255 ∷ 255 ∷ 0 ∷ 0 ∷ 0 ∷ 2 ∷ 255 ∷ 255 ∷ 0 ∷ 0 ∷ 0 ∷ 0 ∷ []

-- ---- words and numbers

spells-word : magic Tkt1 ≡ 84 ∷ 75 ∷ 84 ∷ 49 ∷ []
spells-word = refl

spells_not-word : magic Tkt2 ≢ magic Tkt1
spells_not-word = grind arith

no-capacity : capacity_numbers Tkt1 36 ≡ []
no-capacity = refl

a-capacity : capacity_numbers Tkt2 36 ≡ 36 ∷ []
a-capacity = refl

number-none : parent_number None ≡ 65535
number-none = refl

number_not-none : parent_number (Some 0) ≢ 65535
number_not-none = grind arith

-- ---- a header and ports

-- node 1 of two, with one neighbour, the distance 1 and the parent 0
abbrev near_root : LocalState
near_root = record (default_node (ranges_of two)) { distance = 1; parent = Some 0 }

header-numbers : header_numbers Tkt2 two 1 1 near_root ≡ 2 ∷ 1 ∷ 1 ∷ 1 ∷ 1 ∷ 0 ∷ []
header-numbers = refl

header_not-distance : header_numbers Tkt1 two 1 1 near_root ≢ 2 ∷ 1 ∷ 1 ∷ 2 ∷ 0 ∷ []
header_not-distance = grind arith

abbrev payload : Payload
payload = record { distance = 1; parent = Some 0; ring = 6 }

payload-numbers : payload_numbers payload ≡ 1 ∷ 0 ∷ 6 ∷ []
payload-numbers = refl

-- the number 3, the last one 2, staged with the ring value 6, copied with 4; and the value 5 comes in there
abbrev port : PortState
port = record { seq = 3; last = 2; staged = payload; copy = record payload { ring = 4 } }

port-numbers : port_numbers (record near_root { port = λ w. port; value = λ w. 5 }) 0 ≡ 0 ∷ 3 ∷ 2 ∷ 1 ∷ 0 ∷ 6 ∷ 1 ∷ 0 ∷ 4 ∷ 5 ∷ []
port-numbers = refl

-- what is staged stands in front of what was copied
port_not-turned : port_numbers (record near_root { port = λ w. port; value = λ w. 5 }) 0 ≢ 0 ∷ 3 ∷ 2 ∷ 1 ∷ 0 ∷ 4 ∷ 1 ∷ 0 ∷ 6 ∷ 5 ∷ []
port_not-turned = grind arith

-- ---- what is written

spells-newer : spelling Tkt2 two 1 (0 ∷ []) (default_node (ranges_of two)) ≡ newer
spells-newer = refl

spells_not-older : spelling Tkt1 two 1 (0 ∷ []) (default_node (ranges_of two)) ≢ newer
spells_not-older = grind arith

writes-newer : written two 1 (0 ∷ []) (default_node (ranges_of two)) ≡ newer
writes-newer = refl

file-newer : file_of two 1 (default_node (ranges_of two)) ≡ newer
file-newer = refl

file_not-older : file_of two 1 near_root ≢ newer
file_not-older = grind arith
