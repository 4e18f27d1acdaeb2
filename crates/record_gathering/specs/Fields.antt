-- Which fields of a node of the world differ from what was noted: none if it does not differ.
use Rattle.std.specs.Prelude.{◌≡◌, ◌≢◌, ℕ, Bool, false, ◌==◌, nat_lt, if◌then◌else◌, List, [], ◌∷◌, Option, Some, None}
use Rattle.std.specs.Str.{bytes_eq}
use Rattle.topology.specs.Network.{are_joined}
use Rattle.topology.specs.declared.frame.Frame.{Frame}
use Rattle.flight_records.specs.Again.{same_node, same_payload}
use Rattle.flight_records.specs.declared.entry.Noted.{Noted}
use Rattle.flight_records.specs.declared.entry.Noted.TheVariants as noted
use Rattle.flight_records.specs.declared.entry.StatePart.{StatePart}
use Rattle.flight_records.specs.declared.entry.StatePart.TheVariants as part
use Rattle.flight_records.specs.declared.entry.Deed.{Deed}
use Rattle.flight_records.specs.declared.entry.Deed.TheVariants as deed
use Rattle.configuration.specs.node_core.State.{LocalState}
use Rattle.configuration.specs.node_core.lock_desk.Desk.{DeskState}
use Rattle.configuration.specs.data_link.Port.{PortState}
use Rattle.configuration.specs.run_model.World.{World}
use Rattle.record_gathering.specs.Differences.{same_truth}
use Rattle.record_gathering.specs.Entries.{is_of_link}
use Rattle.record_gathering.specs.Frames.{is_under_way}
use Rattle.record_gathering.specs.declared.fields.Field.{Field}
use Rattle.record_gathering.specs.declared.fields.Field.TheVariants as field

-- the field, unless it is as it was noted
abbrev pub differing : Bool → Field → Option Field
differing is_same f = if is_same then None else Some f

-- none of the five
abbrev pub no_fields : List (Option Field)
no_fields = None ∷ None ∷ None ∷ None ∷ None ∷ []

-- the distance and the parent
abbrev pub own_fields : LocalState → ℕ → Option ℕ → List (Option Field)
own_fields s distance parent =
    differing (s.distance == distance) field.Distance ∷ differing (same_node s.parent parent) field.Parent
    ∷ None ∷ None ∷ None ∷ []

-- the port to u, and the value of the machine that comes in from there
abbrev pub port_fields : ℕ → LocalState → PortState → ℕ → List (Option Field)
port_fields u s p value =
    differing ((s.port u).seq == p.seq) (field.Number u)
    ∷ differing ((s.port u).last == p.last) (field.Last u)
    ∷ differing (same_payload (s.port u).staged p.staged) (field.Staged u)
    ∷ differing (same_payload (s.port u).copy p.copy) (field.Copied u)
    ∷ differing (s.value u == value) (field.Value u) ∷ []

-- the port to u, as far as a frame that it sent shows it
abbrev pub frame_fields : ℕ → PortState → Frame → List (Option Field)
frame_fields u p f =
    differing (p.seq == f.seq) (field.Number u) ∷ differing (p.last == f.ack) (field.Last u)
    ∷ differing (same_payload p.staged f.payload) (field.Staged u) ∷ None ∷ None ∷ []

-- the desk
abbrev pub loan_fields : DeskState → List ℕ → Option ℕ → ℕ → Bool → List (Option Field)
loan_fields d queue lent left served =
    differing (bytes_eq d.waiting queue) field.Waiting ∷ differing (same_node d.lent lent) field.Lent
    ∷ differing (d.left == left) field.Left ∷ differing (same_truth d.served served) field.Served ∷ None ∷ []

-- a frame that was taken, on the link from u to v
abbrev pub taken_fields : World → ℕ → ℕ → Frame → List (Option Field)
taken_fields w u v f =
    differing (is_under_way f (w.link u v)) (field.Taken u) ∷ None ∷ None ∷ None ∷ None ∷ []

-- the fields that differ from a part of v's state; `queue` is what waits, as noted before
abbrev pub part_fields : World → List ℕ → ℕ → StatePart → List (Option Field)
part_fields w queue v (part.Start network node) = no_fields
part_fields w queue v (part.Own distance parent) = own_fields (w.node v) distance parent
part_fields w queue v (part.Port neighbour seq last staged copy value) =
    if are_joined w.net.edges v neighbour
    then port_fields neighbour (w.node v) (record { seq = seq; last = last; staged = staged; copy = copy }) value
    else no_fields
part_fields w queue v (part.Waits ticket) = no_fields
part_fields w queue v (part.Loan lent left served) = loan_fields (w.node v).desk queue lent left served
part_fields w queue v part.Whole = no_fields

-- the fields that do not match what v did
abbrev pub deed_fields : World → ℕ → Deed → List (Option Field)
deed_fields w v (deed.Takes from frame) =
    if is_of_link w from v frame then taken_fields w from v frame else no_fields
deed_fields w v (deed.Sends to frame) =
    if is_of_link w v to frame then frame_fields to ((w.node v).port to) frame else no_fields
deed_fields w v _ = no_fields

-- the fields that differ from an entry of v's record
abbrev pub noted_fields : World → List ℕ → ℕ → Noted → List (Option Field)
noted_fields w queue v (noted.State p) = part_fields w queue v p
noted_fields w queue v (noted.Deed d) = deed_fields w v d

abbrev pub fields_of : World → List ℕ → ℕ → Noted → List (Option Field)
fields_of w queue v n = if nat_lt v w.net.nodes then noted_fields w queue v n else no_fields

-- ---- what it means that a field is named: it differs

-- a field differs from the part for the distance and the parent
abbrev pub OwnDiffers : LocalState → ℕ → Option ℕ → Field → Type 0
OwnDiffers s distance parent field.Distance = s.distance ≢ distance
OwnDiffers s distance parent field.Parent = s.parent ≢ parent
OwnDiffers s distance parent _ = ⊥

-- a field differs from the part for the port to u
abbrev pub PortDiffers : ℕ → LocalState → PortState → ℕ → Field → Type 0
PortDiffers u s p value (field.Number n) = (n ≡ u) × ((s.port u).seq ≢ p.seq)
PortDiffers u s p value (field.Last n) = (n ≡ u) × ((s.port u).last ≢ p.last)
PortDiffers u s p value (field.Staged n) = (n ≡ u) × ((s.port u).staged ≢ p.staged)
PortDiffers u s p value (field.Copied n) = (n ≡ u) × ((s.port u).copy ≢ p.copy)
PortDiffers u s p value (field.Value n) = (n ≡ u) × (s.value u ≢ value)
PortDiffers u s p value _ = ⊥

-- a field differs from the part for the desk
abbrev pub LoanDiffers : DeskState → List ℕ → Option ℕ → ℕ → Bool → Field → Type 0
LoanDiffers d queue lent left served field.Waiting = d.waiting ≢ queue
LoanDiffers d queue lent left served field.Lent = d.lent ≢ lent
LoanDiffers d queue lent left served field.Left = d.left ≢ left
LoanDiffers d queue lent left served field.Served = d.served ≢ served
LoanDiffers d queue lent left served _ = ⊥

abbrev pub PartDiffers : World → List ℕ → ℕ → StatePart → Field → Type 0
PartDiffers w queue v (part.Start network node) f = ⊥
PartDiffers w queue v (part.Own distance parent) f = OwnDiffers (w.node v) distance parent f
PartDiffers w queue v (part.Port neighbour seq last staged copy value) f =
    PortDiffers neighbour (w.node v) (record { seq = seq; last = last; staged = staged; copy = copy }) value f
PartDiffers w queue v (part.Waits ticket) f = ⊥
PartDiffers w queue v (part.Loan lent left served) f = LoanDiffers (w.node v).desk queue lent left served f
PartDiffers w queue v part.Whole f = ⊥

-- a field differs from a frame that was sent to u
abbrev pub FrameDiffers : ℕ → PortState → Frame → Field → Type 0
FrameDiffers u p frame (field.Number n) = (n ≡ u) × (p.seq ≢ frame.seq)
FrameDiffers u p frame (field.Last n) = (n ≡ u) × (p.last ≢ frame.ack)
FrameDiffers u p frame (field.Staged n) = (n ≡ u) × (p.staged ≢ frame.payload)
FrameDiffers u p frame _ = ⊥

-- no frame equal to the one that v took from u is under way
abbrev pub TakenDiffers : World → ℕ → ℕ → Frame → Field → Type 0
TakenDiffers w u v frame (field.Taken n) = (n ≡ u) × (is_under_way frame (w.link u v) ≡ false)
TakenDiffers w u v frame _ = ⊥

abbrev pub DeedDiffers : World → ℕ → Deed → Field → Type 0
DeedDiffers w v (deed.Takes from frame) f = TakenDiffers w from v frame f
DeedDiffers w v (deed.Sends to frame) f = FrameDiffers to ((w.node v).port to) frame f
DeedDiffers w v _ f = ⊥

-- a field of v differs from what an entry of v's record says
abbrev pub Differs : World → List ℕ → ℕ → Noted → Field → Type 0
Differs w queue v (noted.State p) f = PartDiffers w queue v p f
Differs w queue v (noted.Deed d) f = DeedDiffers w v d f

-- this holds of all fields that are named
abbrev pub AreAll : (Field → Type 0) → List (Option Field) → Type 0
AreAll P [] = Unit {0}
AreAll P (None ∷ fs) = AreAll P fs
AreAll P (Some f ∷ fs) = P f × AreAll P fs
