-- What an account leads to, note by note.
use Rattle.std.proofs.Common.{◌≡◌, ℕ, List, ◌∷◌, Contains, IsTrue, ap}
use Rattle.topology.specs.Network.{Network, are_joined}
use Rattle.link_model.specs.declared.item.Item.{Item}
use Rattle.link_model.specs.declared.item.Item.TheVariants.{Noise, Frame}
use Rattle.run_model.specs.data_link.Port.{frame_of}
use Rattle.run_model.specs.node_core.Site.{Site, site_of}
use Rattle.run_model.specs.node_core.State.{LocalState}
use Rattle.run_model.specs.node_core.Step.{taken}
use Rattle.node_core.specs.Deeds.{Deed}
use Rattle.node_core.specs.Deeds as deeds
use Rattle.weaving.specs.declared.journal.Stamped.{Stamped}
use Rattle.weaving.specs.Account.{Note, Sent, Took, IsFrame, Leads, send_first, take_first}

by-send : (site : Site) (w : ℕ) (i : Item) (ds : List Deed) (s last : LocalState) → IsFrame i → deeds.Leads site (send_first w i ds) s last
    → (i ≡ Frame (frame_of (s.port w))) × deeds.Leads site ds s last
by-send site w (Frame f) ds s last frame h = (ap Frame h.1, h.2)
by-send site w Noise ds s last frame h = absurd frame

by-take : (site : Site) (w : ℕ) (i : Item) (ds : List Deed) (s last : LocalState) → deeds.Leads site (take_first w i ds) s last
    → deeds.Leads site ds (taken site w i s) last
by-take site w (Frame f) ds s last h = h.1
by-take site w Noise ds s last h = h

-- a send sends the frame of its port, over a link, and leaves the state
pub leads-by_send : (net : Network) (v : ℕ) (s : LocalState) (u : ℕ) (x : Stamped) (ns : List Note) (last : LocalState) → Leads net v s (Sent u x ∷ ns) last
    → IsTrue (are_joined net.edges v u) × (x.item ≡ Frame (frame_of (s.port u))) × Leads net v s ns last
leads-by_send net v s u x ns last h = let on = by-send (site_of net v) u x.item _ s last h.0.1 h.1 in (h.0.0, on.0, (h.0.2, on.1))

-- a take takes from a link, and changes the state
pub leads-by_take : (net : Network) (v : ℕ) (s : LocalState) (u : ℕ) (x : Stamped) (ns : List Note) (last : LocalState) → Leads net v s (Took u x ∷ ns) last
    → IsTrue (are_joined net.edges u v) × Leads net v (taken (site_of net v) u x.item s) ns last
leads-by_take net v s u x ns last h = (h.0.0, (h.0.1, by-take (site_of net v) u x.item _ s last h.1))

to-take : (site : Site) (w : ℕ) (i : Item) (ds : List Deed) (s last : LocalState) → Contains site.neighbours w → deeds.Leads site ds (taken site w i s) last
    → deeds.Leads site (take_first w i ds) s last
to-take site w (Frame f) ds s last near h = (near, h)
to-take site w Noise ds s last near h = h

-- the other way round
pub leads-to_take : (net : Network) (v : ℕ) (s : LocalState) (u : ℕ) (x : Stamped) (ns : List Note) (last : LocalState) → Contains (site_of net v).neighbours u
    → IsTrue (are_joined net.edges u v) → Leads net v (taken (site_of net v) u x.item s) ns last → Leads net v s (Took u x ∷ ns) last
leads-to_take net v s u x ns last near joined h = ((joined, h.0), to-take (site_of net v) u x.item _ s last near h.1)
