-- One deed of an account: what it requires of the node, and what it makes of the node.
use Rattle.std.proofs.Common.{◌≡◌, List, ◌∷◌, IsTrue}
use Rattle.std.specs.List.{Contains}
use Rattle.data_link.specs.Port.{frame_of}
use Rattle.lock_desk.specs.Desk.{is_number}
use Rattle.node_core.specs.Site.{Site}
use Rattle.node_core.specs.State.{LocalState}
use Rattle.node_core.specs.Deeds.{Deed, Ticks, Sends, Takes, Asks, Leaves, Leads}
use Rattle.processes.specs.Timing.{after_deed}

-- the deed is one that a node in this state can do
abbrev pub IsOwn : Site → Deed → LocalState → Type 0
IsOwn site Ticks s = Unit {0}
IsOwn site (Sends w f) s = Contains site.neighbours w × (f ≡ frame_of (s.port w))
IsOwn site (Takes w f) s = Contains site.neighbours w
IsOwn site (Asks t) s = IsTrue (is_number t)
IsOwn site (Leaves t) s = Unit {0}

pub first-deed : (site : Site) (d : Deed) (ds : List Deed) (s last : LocalState) → Leads site (d ∷ ds) s last
    → IsOwn site d s × Leads site ds (after_deed site d s) last
first-deed site Ticks ds s last h = (tt, h)
first-deed site (Sends w f) ds s last h = ((h.0, h.1), h.2)
first-deed site (Takes w f) ds s last h = h
first-deed site (Asks t) ds s last h = h
first-deed site (Leaves t) ds s last h = (tt, h)
