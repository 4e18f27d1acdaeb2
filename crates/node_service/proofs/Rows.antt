-- Small examples of accounts, and of clients that a node knows, and some that look like them and are none.
use Rattle.std.proofs.Common.{◌≡◌, false, ◌∷◌, None, Some, refl, arith, ap, rules, []}
use Rattle.std.proofs.lemmas.Grind.{common_steps}
use Rattle.topology.specs.declared.frame.Frame.{Frame}
use Rattle.topology.specs.declared.frame.Ranges.{Ranges}
use Rattle.lock_desk.specs.Desk.{no_desk}
use Rattle.node_core.specs.Site.{Site}
use Rattle.node_core.specs.State.{LocalState, default_node}
use Rattle.node_core.specs.Step.{ticked}
use Rattle.node_core.specs.View.{NodeView, state_of}
use Rattle.node_connections.specs.declared.clients.Clients.{Clients}
use Rattle.node_service.specs.Clients.{AreConnected}
use Rattle.node_connections.specs.Clients.{is_connected}
use Rattle.node_service.specs.Deeds.{Leads, Takes, Asks, Leaves, Ticks, Sends, sent_to, taken_from}

abbrev small : Ranges
small = record { nodes = 2; counter = 5; ring = 7 }

-- node 1 of two, whose neighbour is the root
abbrev leaf : Site
leaf = record { id = 1; is_root = false; ranges = small; lease = 0; neighbours = 0 ∷ [] }

abbrev start : LocalState
start = default_node small

abbrev first_frame : Frame
first_frame = record { seq = 0; ack = 0; payload = record { distance = 2; parent = None; ring = 0 } }

abbrev later_frame : Frame
later_frame = record { seq = 1; ack = 0; payload = record { distance = 2; parent = None; ring = 0 } }

-- a tick leads to what the rule of a tick says, and nothing at all does not
leads-tick : Leads leaf (Ticks ∷ []) start (ticked leaf start)
leads-tick = refl

leads_not-nothing : ¬ Leads leaf [] start (ticked leaf start)
leads_not-nothing = λ e. grind (arith, common_steps, ap (λ s. s.parent) e)

-- a ticket that asks and leaves waits no longer
leads-ask-leave : Leads leaf (Asks 3 ∷ (Leaves 3 ∷ [])) start start
leads-ask-leave = (refl, refl)

leads_not-ask : ¬ Leads leaf (Asks 3 ∷ []) start start
leads_not-ask = λ l. grind (arith, common_steps, ap (λ s. s.desk.waiting) l.1)

-- what is sent is the port's frame, to a neighbour
leads-send : Leads leaf (Sends 0 first_frame ∷ []) start start
leads-send = (search rules, refl, refl)

leads_not-send-another : ¬ Leads leaf (Sends 0 later_frame ∷ []) start start
leads_not-send-another = λ l. grind (arith, common_steps, ap (λ f. f.seq) l.1)

-- frames are taken in their order, and each once
taken-two : taken_from 0 (Takes 0 first_frame ∷ (Asks 3 ∷ (Takes 1 first_frame ∷ (Takes 0 later_frame ∷ (Sends 0 first_frame ∷ []))))) ≡ first_frame ∷ (later_frame ∷ [])
taken-two = refl

taken_not-turned : ¬ (taken_from 0 (Takes 0 later_frame ∷ (Takes 0 first_frame ∷ [])) ≡ first_frame ∷ (later_frame ∷ []))
taken_not-turned = λ e. grind (arith, e)

sent-one : sent_to 0 (Takes 0 first_frame ∷ (Sends 1 first_frame ∷ (Sends 0 later_frame ∷ []))) ≡ later_frame ∷ []
sent-one = refl

module _ {P A : Type 0} (clients : Clients P A) (node : NodeView) where
  -- if nobody waits or borrows, no client need be connected
  connected-nobody : (state_of node).desk ≡ no_desk → AreConnected clients node
  connected-nobody e t known = grind (arith, common_steps, e, known)

  -- a borrower that is no connected client
  connected_not-absent : (state_of node).desk ≡ record { waiting = []; lent = Some 3; left = 0; served = false } → is_connected clients 3 ≡ false → ¬ AreConnected clients node
  connected_not-absent e absent are = grind (arith, common_steps, e, absent, are 3)
