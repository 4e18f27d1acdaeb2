-- What a follower does, as an account; and when two nodes are in the same state.
use Rattle.std.specs.Prelude.{◌≡◌, ℕ, Bool, true, false, List, [], ◌∷◌, All, IsTrue, flat_map}
use Rattle.flight_records.specs.declared.entry.Deed.{Deed}
use Rattle.flight_records.specs.declared.entry.Deed.TheVariants.{Ticks, Takes, TakesAgain, Sends}
use Rattle.flight_records.specs.declared.entry.Deed.TheVariants.{SendsAgain, Asks, Leaves, Joins}
use Rattle.flight_records.specs.declared.entry.Deed.TheVariants.{Parts, Connects, Disconnects}
use Rattle.node_core.specs.Deeds as account
use Rattle.topology.specs.Network.{Network, neighbours_of}
use Rattle.node_core.specs.Site.{Site, site_of}
use Rattle.node_core.specs.State.{LocalState}

-- The account of a deed as a record has it, and of deeds: a connection is no deed of the node
-- itself, a short form does not name its frame, and a node whose edges change begins a new account.
abbrev pub account_of_one : Deed → List account.Deed
account_of_one Ticks = account.Ticks ∷ []
account_of_one (Takes from frame) = account.Takes from frame ∷ []
account_of_one (TakesAgain from) = []
account_of_one (Sends to frame) = account.Sends to frame ∷ []
account_of_one (SendsAgain to) = []
account_of_one (Asks ticket) = account.Asks ticket ∷ []
account_of_one (Leaves ticket) = account.Leaves ticket ∷ []
account_of_one (Joins neighbour) = []
account_of_one (Parts neighbour) = []
account_of_one (Connects neighbour) = []
account_of_one (Disconnects neighbour) = []

abbrev pub account_of : List Deed → List account.Deed
account_of ds = flat_map account_of_one ds

-- a deed says by itself what the node did: its frame is named, and no edge of the node changed
abbrev pub is_own_account : Deed → Bool
is_own_account (TakesAgain from) = false
is_own_account (SendsAgain to) = false
is_own_account (Joins neighbour) = false
is_own_account (Parts neighbour) = false
is_own_account _ = true

-- distance, parent and desk are the same
abbrev pub AreSameAlone : LocalState → LocalState → Type 0
AreSameAlone s t = (s.distance ≡ t.distance) × (s.parent ≡ t.parent) × (s.desk ≡ t.desk)

-- the port to w is the same, and the value of the machine that comes in from there
abbrev pub AreSameAt : ℕ → LocalState → LocalState → Type 0
AreSameAt w s t = (s.port w ≡ t.port w) × (s.value w ≡ t.value w)

-- two states of a node with these neighbours are the same
abbrev pub AreSame : List ℕ → LocalState → LocalState → Type 0
AreSame neighbours s t = AreSameAlone s t × All (λ w. AreSameAt w s t) neighbours

-- If each deed says by itself what the node did, these deeds do not lead a node by its own steps
-- from the one state to any that is the same as the other, for a node with these neighbours.
abbrev pub LeadElsewhere : Site → List Deed → LocalState → LocalState → Type 0
LeadElsewhere site ds from to =
    All (λ d. IsTrue (is_own_account d)) ds → (last : LocalState)
    → account.Leads site (account_of ds) from last → ¬ AreSame site.neighbours last to

-- Except for its neighbours, the site is that of this node in the network. So the network has the
-- same capacity, lease and number of nodes. Of its root a node knows only whether it is the root
-- itself.
abbrev pub FitsNetwork : Network → Site → Type 0
FitsNetwork net site = site_of net site.id ≡ record site { neighbours = neighbours_of net site.id }
