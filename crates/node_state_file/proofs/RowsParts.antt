-- The parts of a state file: its numbers, its header, its ports, and when they are refused.
use Rattle.std.proofs.Common.{◌≡◌, ◌≢◌, ℕ, ◌+◌, true, false, List, [], ◌∷◌, Some, None, Err, refl, arith}
use Rattle.topology.specs.Ranges.{ranges_of}
use Rattle.topology.specs.declared.frame.Payload.{Payload}
use Rattle.state_writing.specs.node_core.data_link.Port.{default_port}
use Rattle.node_state_file.specs.declared.fault.FileFault.TheVariants.{Short, Magic, Range}
use Rattle.state_writing.specs.declared.layout.FileLayout.TheVariants.{Tkt1, Tkt2}
use Rattle.node_state_file.specs.declared.saved.Header.{Header}
use Rattle.node_state_file.specs.declared.saved.SavedPort.{SavedPort}
use Rattle.node_state_file.specs.Reading.{layout_of, header_length, number_at, parent_of, payload_at, port_in, ids_of, is_capacity, is_header_of, are_ascending, are_others, saved_port_fits, fields_fit, found, port_or_new, value_or_new, state_saved, decoded_as, decoded_by}
use Rattle.node_state_file.proofs.Rows.{two, triangle, newer}

-- ---- words and numbers

names-layout : layout_of newer ≡ Some Tkt2
names-layout = refl

names_not-layout : layout_of (84 ∷ 75 ∷ 84 ∷ 57 ∷ []) ≡ None
names_not-layout = refl

-- the older layout has no capacity, so its header is two bytes shorter
is-longer : header_length Tkt2 ≡ header_length Tkt1 + 2
is-longer = refl

-- the higher byte comes first
reads-number : number_at (7 ∷ 1 ∷ 2 ∷ []) 1 ≡ 258
reads-number = refl

reads_not-turned : number_at (7 ∷ 1 ∷ 2 ∷ []) 1 ≢ 513
reads_not-turned = grind arith

-- ffff is no parent, and any other number is one
parent-none : parent_of 65535 ≡ None
parent-none = refl

parent_not-none : parent_of 65534 ≡ Some 65534
parent_not-none = refl

-- ---- a header and ports

abbrev payload : Payload
payload = record { distance = 1; parent = Some 0; ring = 6 }

payload-read : payload_at (9 ∷ 0 ∷ 1 ∷ 0 ∷ 0 ∷ 0 ∷ 6 ∷ []) 1 ≡ payload
payload-read = refl

payload_not-turned : payload_at (0 ∷ 6 ∷ 0 ∷ 0 ∷ 0 ∷ 1 ∷ []) 0 ≢ payload
payload_not-turned = grind arith

-- a port to node 0: number 3, last 2, staged with the ring value 6, copied with 4, the value 5
abbrev port : SavedPort
port = record { neighbour = 0; seq = 3; last = 2; staged = payload; copy = record payload { ring = 4 }; value = 5 }

abbrev port_bytes : List ℕ
port_bytes = 0 ∷ 0 ∷ 0 ∷ 3 ∷ 0 ∷ 2 ∷ 0 ∷ 1 ∷ 0 ∷ 0 ∷ 0 ∷ 6 ∷ 0 ∷ 1 ∷ 0 ∷ 0 ∷ 0 ∷ 4 ∷ 0 ∷ 5 ∷ []

port-read : port_in port_bytes ≡ port
port-read = refl

-- what is staged stands in front of what was copied
port_not-turned : port_in port_bytes ≢ record port { staged = port.copy; copy = port.staged }
port_not-turned = grind arith

port-state : port_or_new (ranges_of two) (Some port) ≡ record { seq = 3; last = 2; staged = payload; copy = record payload { ring = 4 } }
port-state = refl

port-new : port_or_new (ranges_of two) None ≡ default_port (ranges_of two)
port-new = refl

-- of two ports to one node the first counts
abbrev another : SavedPort
another = record port { value = 1 }

finds-first : found (port ∷ another ∷ []) 0 ≡ Some port
finds-first = refl

finds_not-another : found (port ∷ another ∷ []) 1 ≡ None
finds_not-another = refl

value-found : value_or_new (Some port) ≡ 5
value-found = refl

value-new : value_or_new None ≡ 0
value-new = refl

abbrev header : Header
header = record { nodes = 2; id = 1; capacity = Some 1; degree = 1; distance = 1; parent = Some 0 }

-- what was saved is the state, and a loan is none of it
holds-value : (state_saved (ranges_of two) header (port ∷ [])).value 0 ≡ 5
holds-value = refl

holds_not-loan : (state_saved (ranges_of two) header (port ∷ [])).desk.lent ≡ None
holds_not-loan = refl

-- ---- what is refused

capacity-any : is_capacity None 4 ≡ true
capacity-any = refl

capacity_not-other : is_capacity (Some 3) 4 ≡ false
capacity_not-other = refl

header-fits : is_header_of two 1 header ≡ true
header-fits = refl

-- a node has a neighbour, and fewer than there are nodes
header_not-alone : is_header_of two 1 (record header { degree = 0 }) ≡ false
header_not-alone = refl

header_not-many : is_header_of two 1 (record header { degree = 2 }) ≡ false
header_not-many = refl

header_not-other_nodes : is_header_of (triangle 1) 1 header ≡ false
header_not-other_nodes = refl

ascend : are_ascending (0 ∷ 2 ∷ 5 ∷ []) ≡ true
ascend = refl

ascend_not-same : are_ascending (0 ∷ 2 ∷ 2 ∷ []) ≡ false
ascend_not-same = refl

ids : ids_of (port ∷ record port { neighbour = 2 } ∷ []) ≡ 0 ∷ 2 ∷ []
ids = refl

others : are_others 3 1 (port ∷ record port { neighbour = 2 } ∷ []) ≡ true
others = refl

others_not-itself : are_others 3 0 (port ∷ []) ≡ false
others_not-itself = refl

others_not-nobody : are_others 2 1 (record port { neighbour = 2 } ∷ []) ≡ false
others_not-nobody = refl

-- both numbers are below 5, distances at most 2, parents below 2, ring values below 7
port-fits : saved_port_fits (ranges_of two) port ≡ true
port-fits = refl

port_not-number : saved_port_fits (ranges_of two) (record port { last = 5 }) ≡ false
port_not-number = refl

port_not-value : saved_port_fits (ranges_of two) (record port { value = 7 }) ≡ false
port_not-value = refl

port_not-copy : saved_port_fits (ranges_of two) (record port { copy = record payload { parent = Some 2 } }) ≡ false
port_not-copy = refl

fields : fields_fit (ranges_of two) header (port ∷ []) ≡ true
fields = refl

fields_not-distance : fields_fit (ranges_of two) (record header { distance = 3 }) (port ∷ []) ≡ false
fields_not-distance = refl

-- fewer than four bytes are short, whatever they are; four that name no layout are not
decodes-short : decoded_by two 1 (84 ∷ 75 ∷ 84 ∷ []) None ≡ Err Short
decodes-short = refl

decodes_not-short : decoded_by two 1 (84 ∷ 75 ∷ 84 ∷ 57 ∷ []) None ≡ Err Magic
decodes_not-short = refl

-- a fault is answered, and no state beside it
decodes-fault : decoded_as two 1 newer Tkt2 (Some Range) ≡ Err Range
decodes-fault = refl
