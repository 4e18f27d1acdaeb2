-- How a node's state is spelled in a file: a magic word of four bytes, and then numbers of two bytes
-- each, the higher byte first.
use Rattle.std.specs.Prelude.{ℕ, List, [], ◌∷◌, ◌++◌, length, Option, None, Some, codes}
use Rattle.std.specs.List.{flat_map}
use Rattle.byteorder.specs.Endian.{big_bytes}
use Rattle.topology.specs.Network.{Network}
use Rattle.topology.specs.declared.frame.Payload.{Payload}
use Rattle.node_core.specs.State.{LocalState}
use Rattle.state_writing.specs.declared.layout.FileLayout.{FileLayout}
use Rattle.state_writing.specs.declared.layout.FileLayout.TheVariants.{Tkt1, Tkt2}

-- the magic word of a layout
abbrev pub magic : FileLayout → List ℕ
magic Tkt1 = codes "TKT1"
magic Tkt2 = codes "TKT2"

-- TKT2 has the capacity of links
abbrev pub capacity_numbers : FileLayout → ℕ → List ℕ
capacity_numbers Tkt1 capacity = []
capacity_numbers Tkt2 capacity = capacity ∷ []

-- a parent as a number, and ffff stands for none
abbrev pub parent_number : Option ℕ → ℕ
parent_number None = 65535
parent_number (Some p) = p

-- the numbers of the network, the node's id and its degree, and its own distance and parent
abbrev pub header_numbers : FileLayout → Network → ℕ → ℕ → LocalState → List ℕ
header_numbers l net id degree s =
    net.nodes ∷ id ∷ (capacity_numbers l net.capacity ++ (degree ∷ s.distance ∷ parent_number s.parent ∷ []))

-- a payload: its distance, parent and ring value
abbrev pub payload_numbers : Payload → List ℕ
payload_numbers p = p.distance ∷ parent_number p.parent ∷ p.ring ∷ []

-- the port to w: its neighbour's id, its number, the last number accepted, the payloads staged and
-- copied, and the value of the machine that comes in from there
abbrev pub port_numbers : LocalState → ℕ → List ℕ
port_numbers s w =
    let p = s.port w in
    w ∷ p.seq ∷ p.last ∷ (payload_numbers p.staged ++ (payload_numbers p.copy ++ (s.value w ∷ [])))

-- the spelling of a state, with these ids as its neighbours; the desk is no part of it
abbrev pub spelling : FileLayout → Network → ℕ → List ℕ → LocalState → List ℕ
spelling l net id neighbours s =
    magic l ++ flat_map (big_bytes 2) (header_numbers l net id (length neighbours) s ++ flat_map (port_numbers s) neighbours)

-- the spelling in the layout that is written
abbrev pub written : Network → ℕ → List ℕ → LocalState → List ℕ
written net id neighbours s = spelling Tkt2 net id neighbours s
