-- Fields of two nodes, to which nothing has happened.
use Rattle.std.proofs.Common.{◌≡◌, ℕ, true, [], ◌∷◌, Some, None, refl, arith}
use Rattle.topology.specs.Network.{Network}
use Rattle.topology.specs.Ranges.{ranges_of}
use Rattle.topology.specs.declared.frame.Frame.{Frame}
use Rattle.flight_records.specs.declared.entry.Noted.TheVariants as noted
use Rattle.flight_records.specs.declared.entry.StatePart.{StatePart}
use Rattle.flight_records.specs.declared.entry.StatePart.TheVariants as part
use Rattle.flight_records.specs.declared.entry.Deed.TheVariants as deed
use Rattle.configuration.specs.node_core.State.{default_node}
use Rattle.configuration.specs.run_model.World.{World}
use Rattle.record_gathering.specs.Fields.{fields_of, no_fields, Differs}
use Rattle.record_gathering.specs.Parts.{part_noted, IsPortOfNode}
use Rattle.record_gathering.specs.declared.fields.Field.TheVariants as field
use Rattle.record_gathering.specs.declared.parts.PartNoted.{PartNoted}
use Rattle.record_gathering.specs.declared.parts.PartNoted.TheVariants as said

abbrev pair : Network
pair = record { nodes = 2; root = 0; capacity = 2; lease = 0; edges = (0, 1) ∷ [] }

abbrev fresh : World
fresh = record {
  net = pair;
  spares = 0;
  node = λ v. default_node (ranges_of pair);
  link = λ u v. [];
}

abbrev frame : Frame
frame = record { seq = 1; ack = 2; payload = record { distance = 2; parent = None; ring = 0 } }

-- node 1 has the distance 2 and no parent
other-distance : fields_of fresh [] 1 (noted.State (part.Own 1 None)) ≡ Some field.Distance ∷ None ∷ None ∷ None ∷ None ∷ []
other-distance = refl

other-parent : fields_of fresh [] 1 (noted.State (part.Own 2 (Some 0))) ≡ None ∷ Some field.Parent ∷ None ∷ None ∷ None ∷ []
other-parent = refl

the-same : fields_of fresh [] 1 (noted.State (part.Own 2 None)) ≡ no_fields
the-same = refl

-- nobody waits at its desk, and it has lent to nobody
other-desk : fields_of fresh (7 ∷ []) 1 (noted.State (part.Loan None 0 true))
    ≡ Some field.Waiting ∷ None ∷ None ∷ Some field.Served ∷ None ∷ []
other-desk = refl

-- its port to node 0 would send a different number, and acknowledge a different one
other-frame : fields_of fresh [] 1 (noted.Deed (deed.Sends 0 frame))
    ≡ Some (field.Number 0) ∷ Some (field.Last 0) ∷ None ∷ None ∷ None ∷ []
other-frame = refl

nobody-sent : fields_of fresh [] 1 (noted.Deed (deed.Takes 0 frame)) ≡ Some (field.Taken 0) ∷ None ∷ None ∷ None ∷ None ∷ []
nobody-sent = refl

-- node 2 does not exist
no-such-node : fields_of fresh [] 2 (noted.State (part.Own 1 None)) ≡ no_fields
no-such-node = refl

-- what is as noted does not differ, and a part says nothing of other fields
not-other : Differs fresh [] 1 (noted.State (part.Own 2 None)) field.Distance → ⊥
not-other d = d refl

not-said : Differs fresh [] 1 (noted.State (part.Own 1 None)) field.Served → ⊥
not-said d = d

-- a part gives the state of the node's port to a neighbour, and nothing of a port to a node that is no
-- neighbour
abbrev about : ℕ → StatePart
about neighbour = part.Port neighbour 3 4 frame.payload frame.payload 5

abbrev said-about : ℕ → PartNoted
said-about neighbour = said.Port (record {
  neighbour = neighbour;
  seq = 3;
  last = 4;
  staged = frame.payload;
  copy = frame.payload;
  value = 5;
})

part-neighbour : part_noted fresh 1 (about 0) ≡ said-about 0
part-neighbour = refl

part_not-itself : part_noted fresh 1 (about 1) ≡ said-about 1 → ⊥
part_not-itself e = absurd cc

part-waits : part_noted fresh 1 (part.Waits 7) ≡ said.Nothing
part-waits = refl

-- of two nodes, 1 is a node and 2 is not
port-of_node : IsPortOfNode 2 (said-about 1)
port-of_node = omega arith

port_not-of_node : IsPortOfNode 2 (said-about 2) → ⊥
port_not-of_node below = omega arith
