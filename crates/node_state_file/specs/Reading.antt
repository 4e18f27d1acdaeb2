-- What bytes are read as: a node's state, or the first fault.
use Rattle.std.specs.Prelude.{ℕ, ◌+◌, ◌*◌, ◌==◌, Bool, true, not, ◌&&◌, nat_lt, nat_le, if◌then◌else◌, zero, suc, List, [], ◌∷◌, length, take, drop, map, Option, None, Some, Result, Ok, Err}
use Rattle.std.specs.List.{find, list_all}
use Rattle.std.specs.Str.{bytes_eq}
use Rattle.byteorder.specs.Endian.{big_number}
use Rattle.topology.specs.Network.{Network, neighbours_of}
use Rattle.topology.specs.Ranges.{payload_fits, ranges_of}
use Rattle.topology.specs.declared.frame.Payload.{Payload}
use Rattle.topology.specs.declared.frame.Ranges.{Ranges}
use Rattle.state_writing.specs.node_core.data_link.Port.{PortState, counters_fit, default_port}
use Rattle.state_writing.specs.node_core.lock_desk.Desk.{no_desk}
use Rattle.state_writing.specs.node_core.State.{LocalState}
use Rattle.state_writing.specs.node_core.Writes.{own_fits}
use Rattle.state_writing.specs.node_core.Rewire.{rewired}
use Rattle.state_writing.specs.Spelling.{magic}
use Rattle.node_state_file.specs.declared.fault.FileFault.{FileFault}
use Rattle.node_state_file.specs.declared.fault.FileFault.TheVariants.{Short, Magic, Shape, Range, Long}
use Rattle.state_writing.specs.declared.layout.FileLayout.{FileLayout}
use Rattle.state_writing.specs.declared.layout.FileLayout.TheVariants.{Tkt1, Tkt2}
use Rattle.node_state_file.specs.declared.saved.Header.{Header}
use Rattle.node_state_file.specs.declared.saved.SavedPort.{SavedPort}

-- the layout that the first four bytes name
abbrev pub layout_of : List ℕ → Option FileLayout
layout_of bytes =
    if bytes_eq (take 4 bytes) (magic Tkt1) then Some Tkt1
    else if bytes_eq (take 4 bytes) (magic Tkt2) then Some Tkt2
    else None

-- how many bytes come before the ports
abbrev pub header_length : FileLayout → ℕ
header_length Tkt1 = 14
header_length Tkt2 = 16

-- the number of two bytes at a place, the higher byte first
abbrev pub number_at : List ℕ → ℕ → ℕ
number_at bytes at = big_number 2 (drop at bytes)

-- the parent that a number stands for
abbrev pub parent_of : ℕ → Option ℕ
parent_of n = if n == 65535 then None else Some n

-- the header
abbrev pub header_of : FileLayout → List ℕ → Header
header_of Tkt1 bytes = record {
  nodes = number_at bytes 4;
  id = number_at bytes 6;
  capacity = None;
  degree = number_at bytes 8;
  distance = number_at bytes 10;
  parent = parent_of (number_at bytes 12);
}
header_of Tkt2 bytes = record {
  nodes = number_at bytes 4;
  id = number_at bytes 6;
  capacity = Some (number_at bytes 8);
  degree = number_at bytes 10;
  distance = number_at bytes 12;
  parent = parent_of (number_at bytes 14);
}

-- a payload's three numbers
abbrev pub payload_at : List ℕ → ℕ → Payload
payload_at bytes at = record {
  distance = number_at bytes at;
  parent = parent_of (number_at bytes (at + 2));
  ring = number_at bytes (at + 4);
}

-- a port's ten numbers
abbrev pub port_in : List ℕ → SavedPort
port_in bytes = record {
  neighbour = number_at bytes 0;
  seq = number_at bytes 2;
  last = number_at bytes 4;
  staged = payload_at bytes 6;
  copy = payload_at bytes 12;
  value = number_at bytes 18;
}

-- the first `count` ports, of 20 bytes each
abbrev pub ports_in : ℕ → List ℕ → List SavedPort
ports_in zero bytes = []
ports_in (suc count) bytes = port_in bytes ∷ ports_in count (drop 20 bytes)

-- the ids of the neighbours that the file names
abbrev pub ids_of : List SavedPort → List ℕ
ids_of ports = map (λ p. p.neighbour) ports

-- the capacity is the network's, if the file has it
abbrev pub is_capacity : Option ℕ → ℕ → Bool
is_capacity None capacity = true
is_capacity (Some saved) capacity = saved == capacity

-- the file is of this node in a network of this many nodes and this capacity, and has at least one
-- port, but fewer than there are nodes
abbrev pub is_header_of : Network → ℕ → Header → Bool
is_header_of net id h =
    h.nodes == net.nodes && (h.id == id && (is_capacity h.capacity net.capacity && (nat_le 1 h.degree && nat_lt h.degree net.nodes)))

-- each id is below the next
abbrev pub are_ascending : List ℕ → Bool
are_ascending [] = true
are_ascending (w ∷ []) = true
are_ascending (v ∷ w ∷ ws) = nat_lt v w && are_ascending (w ∷ ws)

-- the neighbours' ids ascend, and each is another node's
abbrev pub are_others : ℕ → ℕ → List SavedPort → Bool
are_others nodes id ports =
    are_ascending (ids_of ports) && list_all (λ p. nat_lt p.neighbour nodes && not (p.neighbour == id)) ports

-- each field of a port is in its range
abbrev pub saved_port_fits : Ranges → SavedPort → Bool
saved_port_fits r p =
    counters_fit r p.seq p.last && (payload_fits r p.staged && (payload_fits r p.copy && nat_lt p.value r.ring))

-- all fields are in their ranges, even those of ports to nodes that are no longer neighbours
abbrev pub fields_fit : Ranges → Header → List SavedPort → Bool
fields_fit r h ports = own_fits r h.distance h.parent && list_all (saved_port_fits r) ports

-- the first fault of a file of this layout
abbrev pub first_fault : Network → ℕ → FileLayout → List ℕ → Option FileFault
first_fault net id l bytes =
    let h = header_of l bytes in
    let rest = drop (header_length l) bytes in
    let ports = ports_in h.degree rest in
    if nat_lt (length bytes) (header_length l) then Some Short
    else if not (is_header_of net id h) then Some Shape
    else if nat_lt (length rest) (20 * h.degree) then Some Short
    else if not (are_others net.nodes id ports) then Some Shape
    else if not (fields_fit (ranges_of net) h ports) then Some Range
    else if nat_lt (20 * h.degree) (length rest) then Some Long
    else None

-- the first port to w, if the file has one
abbrev pub found : List SavedPort → ℕ → Option SavedPort
found ports w = find (λ p. p.neighbour == w) ports

-- a port as it was saved; as at the start if the file has none
abbrev pub port_or_new : Ranges → Option SavedPort → PortState
port_or_new r None = default_port r
port_or_new r (Some p) = record { seq = p.seq; last = p.last; staged = p.staged; copy = p.copy }

-- the value of the machine that comes in there; 0 if the file has none
abbrev pub value_or_new : Option SavedPort → ℕ
value_or_new None = 0
value_or_new (Some p) = p.value

-- the state that a file holds, with an empty desk
abbrev pub state_saved : Ranges → Header → List SavedPort → LocalState
state_saved r h ports = record {
  distance = h.distance;
  parent = h.parent;
  port = λ w. port_or_new r (found ports w);
  value = λ w. value_or_new (found ports w);
  desk = no_desk;
}

-- that state, re-matched to the node's neighbours in the network
abbrev pub matched : Network → ℕ → Header → List SavedPort → LocalState
matched net id h ports =
    let r = ranges_of net in
    rewired r (ids_of ports) (neighbours_of net id) (state_saved r h ports)

-- a file of this layout is read as its first fault, or as its state
abbrev pub decoded_as : Network → ℕ → List ℕ → FileLayout → Option FileFault → Result LocalState FileFault
decoded_as net id bytes l (Some fault) = Err fault
decoded_as net id bytes l None =
    let h = header_of l bytes in
    Ok (matched net id h (ports_in h.degree (drop (header_length l) bytes)))

-- and a file whose first four bytes name no layout is read as Short or Magic
abbrev pub decoded_by : Network → ℕ → List ℕ → Option FileLayout → Result LocalState FileFault
decoded_by net id bytes None = Err (if nat_lt (length bytes) 4 then Short else Magic)
decoded_by net id bytes (Some l) = decoded_as net id bytes l (first_fault net id l bytes)

-- what bytes are read as for node id of a network
abbrev pub decoded : Network → ℕ → List ℕ → Result LocalState FileFault
decoded net id bytes = decoded_by net id bytes (layout_of bytes)
