-- What is noted of the deeds of a turn.
use Rattle.std.specs.Prelude.{◌≡◌, ℕ, Bool, true, false, nat_lt, if◌then◌else◌, List, ◌∷◌, ◌++◌, length, All, []}
use Rattle.flight_records.specs.declared.entry.Deed.TheVariants as entry
use Rattle.flight_records.specs.declared.entry.Deed as entries
use Rattle.lock_desk.specs.declared.client_line.ClientLine.{ClientLine}
use Rattle.lock_desk.specs.declared.client_line.ClientLine.TheVariants.{Lock, Unlock, Status, Unknown}
use Rattle.node_core.specs.View.{NodeView}
use Rattle.node_core.specs.declared.ticked.Ticked.{Ticked}
use Rattle.topology.specs.declared.frame.Frame.{Frame}
use Rattle.node_service.specs.Deeds.{Deed, Takes, Asks, Leaves, Ticks, Sends, Acts, Became}
use Rattle.node_service.specs.NotesView.{NotesView}

-- a deed as a record has it
abbrev pub as_entry : Deed → entries.Deed
as_entry (Takes w f) = entry.Takes w f
as_entry (Asks t) = entry.Asks t
as_entry (Leaves t) = entry.Leaves t
as_entry Ticks = entry.Ticks
as_entry (Sends w f) = entry.Sends w f

-- at the start of a turn nothing is noted
abbrev pub emptied : NotesView → NotesView
emptied n = record n { deeds = []; is_torn = false }

-- a deed is noted after the others, if there is room for it
abbrev pub after_note : entries.Deed → NotesView → NotesView
after_note d n =
    if nat_lt (length n.deeds) n.room then record n { deeds = n.deeds ++ d ∷ [] }
    else record n { is_torn = true }

-- deeds are noted, one after the other
abbrev pub after_all : List Deed → NotesView → NotesView
after_all [] n = n
after_all (d ∷ ds) n = after_all ds (after_note (as_entry d) n)

-- the deeds of a client's line
abbrev pub deeds_of_line : ℕ → ClientLine → List Deed
deeds_of_line t Lock = Asks t ∷ []
deeds_of_line t Unlock = Leaves t ∷ []
deeds_of_line t Status = []
deeds_of_line t Unknown = []

-- a frame that was accepted, or none
abbrev pub sends_if : Bool → ℕ → Frame → List Deed
sends_if true w frame = Sends w frame ∷ []
sends_if false w frame = []

-- Some deeds of this kind led the node to what it became, and just these were noted.
pub record Did (kind : Deed → Type 0) (old new : NodeView) (before after : NotesView) : Type 0 where
  pub became : Became kind old new
  pub noted : after ≡ after_all became.deeds before

-- The node ticked once, and then some tickets left, each by a deed of this kind; just that was noted.
pub record DidAct (kind : Deed → Type 0) (says : Ticked) (old new : NodeView)
    (before after : NotesView) : Type 0 where
  pub acts : Acts says old new
  pub kinds : All kind acts.leaves.deeds
  pub noted : after ≡ after_all (Ticks ∷ acts.leaves.deeds) before
