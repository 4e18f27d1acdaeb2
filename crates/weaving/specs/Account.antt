-- An account: what one node did on its own thread, in order, with the stamps and the items that it
-- sent and took. `node_core` says what the node does by its deeds, as it does for any node.
use Rattle.std.specs.Prelude.{ℕ, ◌==◌, if◌then◌else◌, IsTrue, List, [], ◌∷◌}
use Rattle.topology.specs.Network.{Network, are_joined}
use Rattle.link_model.specs.declared.item.Item.{Item}
use Rattle.link_model.specs.declared.item.Item.TheVariants.{Noise, Frame}
use Rattle.run_model.specs.node_core.Site.{site_of}
use Rattle.run_model.specs.node_core.State.{LocalState}
use Rattle.node_core.specs.Deeds.{Deed, Ticks, Sends, Takes}
use Rattle.node_core.specs.Deeds as deeds
use Rattle.run_model.specs.declared.event.Event.TheVariants.{Send, Take, Tick}
use Rattle.weaving.specs.declared.journal.JournalEntry.{JournalEntry}
use Rattle.weaving.specs.declared.journal.Stamped.{Stamped}

-- what a node notes on its thread: a tick, with its stamp; what it sent to a neighbour; what it
-- took from a neighbour
pub data Note : Type 0 where
  Ticked : ℕ → Note
  Sent : ℕ → Stamped → Note
  Took : ℕ → Stamped → Note

-- the entry of v's journal for a note
abbrev pub entry_of : ℕ → Note → JournalEntry
entry_of v (Ticked t) = record { stamp = t; event = Tick v }
entry_of v (Sent u s) = record { stamp = s.stamp; event = Send v u }
entry_of v (Took u s) = record { stamp = s.stamp; event = Take u v }

-- what was sent to u
abbrev pub sent_to : ℕ → List Note → List Stamped
sent_to u [] = []
sent_to u (Ticked t ∷ ns) = sent_to u ns
sent_to u (Sent w s ∷ ns) = if w == u then s ∷ sent_to u ns else sent_to u ns
sent_to u (Took w s ∷ ns) = sent_to u ns

-- what was taken from u
abbrev pub taken_from : ℕ → List Note → List Stamped
taken_from u [] = []
taken_from u (Ticked t ∷ ns) = taken_from u ns
taken_from u (Sent w s ∷ ns) = taken_from u ns
taken_from u (Took w s ∷ ns) = if w == u then s ∷ taken_from u ns else taken_from u ns

-- a frame that goes to w, then more deeds
abbrev pub send_first : ℕ → Item → List Deed → List Deed
send_first w (Frame f) ds = Sends w f ∷ ds
send_first w Noise ds = ds

-- A frame that comes from w, then more deeds. Taking noise that was on a link when the run began
-- is no deed: it changes nothing in the node.
abbrev pub take_first : ℕ → Item → List Deed → List Deed
take_first w (Frame f) ds = Takes w f ∷ ds
take_first w Noise ds = ds

-- the deeds that a node's notes report
abbrev pub deeds_in : List Note → List Deed
deeds_in [] = []
deeds_in (Ticked t ∷ ns) = Ticks ∷ deeds_in ns
deeds_in (Sent w s ∷ ns) = send_first w s.item (deeds_in ns)
deeds_in (Took w s ∷ ns) = take_first w s.item (deeds_in ns)

-- the item is a frame
abbrev pub IsFrame : Item → Type 0
IsFrame (Frame f) = Unit {0}
IsFrame Noise = ⊥

-- v sends frames, and sends and takes only over links of the network
abbrev pub AreOverLinks : Network → ℕ → List Note → Type 0
AreOverLinks net v [] = Unit {0}
AreOverLinks net v (Ticked t ∷ ns) = AreOverLinks net v ns
AreOverLinks net v (Sent u s ∷ ns) =
    IsTrue (are_joined net.edges v u) × IsFrame s.item × AreOverLinks net v ns
AreOverLinks net v (Took u s ∷ ns) = IsTrue (are_joined net.edges u v) × AreOverLinks net v ns

-- The account leads v from one state to another by the node's own steps: its deeds do, and it
-- sends and takes only over links.
abbrev pub Leads : Network → ℕ → LocalState → List Note → LocalState → Type 0
Leads net v s notes last =
    AreOverLinks net v notes × deeds.Leads (site_of net v) (deeds_in notes) s last
