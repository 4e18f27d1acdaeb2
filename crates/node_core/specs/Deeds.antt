-- What one node does, deed by deed: it takes frames, its clients ask and leave, it ticks, and it
-- sends.
use Rattle.std.specs.Prelude.{◌≡◌, ℕ, ◌==◌, List, [], ◌∷◌, Contains, IsTrue, if◌then◌else◌, is_none}
use Rattle.registers.specs.topology.declared.frame.Frame.{Frame}
use Rattle.data_link.specs.link_model.declared.item.Item.TheVariants as item
use Rattle.data_link.specs.Port.{frame_of}
use Rattle.lock_desk.specs.Desk.{DeskState, ask_fault, asked, after_leave, is_number}
use Rattle.node_core.specs.Site.{Site}
use Rattle.node_core.specs.State.{LocalState}
use Rattle.node_core.specs.Step.{taken, ticked}

-- a frame of a neighbour is taken; a ticket asks; a ticket leaves; the node ticks; the link to a
-- neighbour accepts a frame
pub data Deed : Type 0 where
  Takes : ℕ → Frame → Deed
  Asks : ℕ → Deed
  Leaves : ℕ → Deed
  Ticks : Deed
  Sends : ℕ → Frame → Deed

-- a ticket that asks waits after all others; one that is refused changes nothing
abbrev pub after_ask : ℕ → DeskState → DeskState
after_ask t d = if is_none (ask_fault t d) then asked t d else d

-- The deeds lead a node from one state to another by its own steps: it takes from neighbours and
-- sends to neighbours alone, what it sends is the frame of that port, and a ticket that asks is a
-- number below 65536.
abbrev pub Leads : Site → List Deed → LocalState → LocalState → Type 0
Leads site [] s last = last ≡ s
Leads site (Takes w f ∷ ds) s last =
    Contains site.neighbours w × Leads site ds (taken site w (item.Frame f) s) last
Leads site (Asks t ∷ ds) s last =
    IsTrue (is_number t) × Leads site ds (record s { desk = after_ask t s.desk }) last
Leads site (Leaves t ∷ ds) s last = Leads site ds (record s { desk = after_leave t s.desk }) last
Leads site (Ticks ∷ ds) s last = Leads site ds (ticked site s) last
Leads site (Sends w f ∷ ds) s last =
    Contains site.neighbours w × (f ≡ frame_of (s.port w)) × Leads site ds s last

-- the frames that were taken from w, in their order
abbrev pub taken_from : ℕ → List Deed → List Frame
taken_from w [] = []
taken_from w (Takes v f ∷ ds) = if v == w then f ∷ taken_from w ds else taken_from w ds
taken_from w (Asks t ∷ ds) = taken_from w ds
taken_from w (Leaves t ∷ ds) = taken_from w ds
taken_from w (Ticks ∷ ds) = taken_from w ds
taken_from w (Sends v f ∷ ds) = taken_from w ds

-- the frames that were sent to w, in their order
abbrev pub sent_to : ℕ → List Deed → List Frame
sent_to w [] = []
sent_to w (Takes v f ∷ ds) = sent_to w ds
sent_to w (Asks t ∷ ds) = sent_to w ds
sent_to w (Leaves t ∷ ds) = sent_to w ds
sent_to w (Ticks ∷ ds) = sent_to w ds
sent_to w (Sends v f ∷ ds) = if v == w then f ∷ sent_to w ds else sent_to w ds
