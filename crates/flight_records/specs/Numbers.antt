-- What an entry notes, as numbers: its kind, and then its fields.
use Rattle.std.specs.Prelude.{ℕ, ◌+◌, Bool, true, false}
use Rattle.std.specs.Prelude.{List, [], ◌∷◌, Option, Some, None}
use Rattle.topology.specs.declared.frame.Frame.{Frame}
use Rattle.topology.specs.declared.frame.Payload.{Payload}
use Rattle.flight_records.specs.declared.entry.Noted.{Noted}
use Rattle.flight_records.specs.declared.entry.Noted.TheVariants as noted
use Rattle.flight_records.specs.declared.entry.StatePart.{StatePart}
use Rattle.flight_records.specs.declared.entry.StatePart.TheVariants.{Start, Own, Port, Waits, Loan, Whole}
use Rattle.flight_records.specs.declared.entry.Deed.{Deed}
use Rattle.flight_records.specs.declared.entry.Deed.TheVariants.{Ticks, Takes, TakesAgain, Sends}
use Rattle.flight_records.specs.declared.entry.Deed.TheVariants.{SendsAgain, Asks, Leaves, Joins}
use Rattle.flight_records.specs.declared.entry.Deed.TheVariants.{Parts, Connects, Disconnects}

-- nothing becomes 0, and a number becomes one more than itself
abbrev pub optional : Option ℕ → ℕ
optional None = 0
optional (Some n) = n + 1

-- yes is 1, no is 0
abbrev pub truth : Bool → ℕ
truth true = 1
truth false = 0

-- a payload's three numbers, then more
abbrev pub payload_then : Payload → List ℕ → List ℕ
payload_then p more = p.distance ∷ optional p.parent ∷ p.ring ∷ more

-- a frame's five numbers
abbrev pub frame_numbers : Frame → List ℕ
frame_numbers f = f.seq ∷ f.ack ∷ payload_then f.payload []

-- the kinds of the parts of a state
abbrev pub part_kind : StatePart → ℕ
part_kind (Start network node) = 1
part_kind (Own distance parent) = 2
part_kind (Port neighbour seq last staged copy value) = 3
part_kind (Waits ticket) = 4
part_kind (Loan lent left served) = 5
part_kind Whole = 6

-- and their fields
abbrev pub part_fields : StatePart → List ℕ
part_fields (Start network node) = network ∷ node ∷ []
part_fields (Own distance parent) = distance ∷ optional parent ∷ []
part_fields (Port neighbour seq last staged copy value) =
    neighbour ∷ seq ∷ last ∷ payload_then staged (payload_then copy (value ∷ []))
part_fields (Waits ticket) = ticket ∷ []
part_fields (Loan lent left served) = optional lent ∷ left ∷ truth served ∷ []
part_fields Whole = []

-- the kinds of deeds
abbrev pub deed_kind : Deed → ℕ
deed_kind Ticks = 7
deed_kind (Takes from frame) = 8
deed_kind (TakesAgain from) = 9
deed_kind (Sends to frame) = 10
deed_kind (SendsAgain to) = 11
deed_kind (Asks ticket) = 12
deed_kind (Leaves ticket) = 13
deed_kind (Joins neighbour) = 14
deed_kind (Parts neighbour) = 15
deed_kind (Connects neighbour) = 16
deed_kind (Disconnects neighbour) = 17

-- and their fields
abbrev pub deed_fields : Deed → List ℕ
deed_fields Ticks = []
deed_fields (Takes from frame) = from ∷ frame_numbers frame
deed_fields (TakesAgain from) = from ∷ []
deed_fields (Sends to frame) = to ∷ frame_numbers frame
deed_fields (SendsAgain to) = to ∷ []
deed_fields (Asks ticket) = ticket ∷ []
deed_fields (Leaves ticket) = ticket ∷ []
deed_fields (Joins neighbour) = neighbour ∷ []
deed_fields (Parts neighbour) = neighbour ∷ []
deed_fields (Connects neighbour) = neighbour ∷ []
deed_fields (Disconnects neighbour) = neighbour ∷ []

-- the kind of what is noted
abbrev pub kind : Noted → ℕ
kind (noted.State part) = part_kind part
kind (noted.Deed deed) = deed_kind deed

-- and its fields
abbrev pub fields : Noted → List ℕ
fields (noted.State part) = part_fields part
fields (noted.Deed deed) = deed_fields deed
