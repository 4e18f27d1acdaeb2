-- Deeds of one node, small enough to check by hand.
use Rattle.std.proofs.Common.{◌≡◌, ℕ, List, [], ◌∷◌, Some, true, false, refl, ap, rules, arith}
use Rattle.std.proofs.lemmas.Grind.{common_steps}
use Rattle.std.specs.List.{range_with_len}
use Rattle.lock_desk.specs.Desk.{DeskState, no_desk}
use Rattle.node_core.specs.Site.{Site}
use Rattle.node_core.specs.State.{LocalState, default_node}
use Rattle.registers.specs.topology.declared.frame.Ranges.{Ranges}
use Rattle.registers.specs.topology.declared.frame.Frame.{Frame}
use Rattle.data_link.specs.Port.{frame_of}
use Rattle.node_core.specs.Deeds.{Ticks, Sends, Takes, Asks, Leaves, after_ask, Leads, taken_from, sent_to}

-- node 1 of a line of three, which is not the root
abbrev sizes : Ranges
sizes = record { nodes = 3; counter = 5; ring = 13 }

abbrev middle : Site
middle = record { id = 1; is_root = false; ranges = sizes; lease = 0; neighbours = 0 ∷ 2 ∷ [] }

abbrev start : LocalState
start = default_node sizes

abbrev with_waiting : List ℕ → LocalState
with_waiting tickets = record start { desk = record no_desk { waiting = tickets } }

-- ticket 5 borrows, and 8 and 7 wait
abbrev lending : DeskState
lending = record { waiting = 8 ∷ 7 ∷ []; lent = Some 5; left = 2; served = true }

-- a ticket that asks waits after both, and nothing else changes
ask-waits_last : after_ask 6 lending ≡ record lending { waiting = 8 ∷ 7 ∷ 6 ∷ [] }
ask-waits_last = refl

-- the one that borrows and one that waits are refused, and change nothing
ask-refused : (after_ask 5 lending ≡ lending) × (after_ask 8 lending ≡ lending)
ask-refused = (refl, refl)

-- 64 tickets wait, and one more changes nothing
abbrev crowd : DeskState
crowd = record no_desk { waiting = range_with_len 0 64 }

ask-full : after_ask 64 crowd ≡ crowd
ask-full = refl

-- a ticket that asks does not wait in front of others
ask_not-first : ¬ ((after_ask 6 lending).waiting ≡ 6 ∷ 8 ∷ 7 ∷ [])
ask_not-first e = absurd cc

-- two tickets ask, the one that asks again is refused, and the first leaves
two-ask : Leads middle (Asks 7 ∷ Asks 8 ∷ Asks 7 ∷ Leaves 7 ∷ []) start (with_waiting (8 ∷ []))
two-ask = (refl, (refl, (refl, refl)))

-- in this order, and in no other
not-the-other-first : Leads middle (Asks 7 ∷ Asks 8 ∷ []) start (with_waiting (8 ∷ 7 ∷ [])) → ⊥
not-the-other-first h = let e : ◌≡◌ {A = List ℕ} (8 ∷ 7 ∷ []) (7 ∷ 8 ∷ []) = ap (λ s. s.desk.waiting) h.1.1 in absurd cc

-- the frame of a port goes to that neighbour, and a ticket asks
asks-and-sends : Leads middle (Sends 0 (frame_of (start.port 0)) ∷ Asks 7 ∷ []) start (with_waiting (7 ∷ []))
asks-and-sends = search rules

-- a ticket that is no number below 65536 does not ask
no-such-ticket : Leads middle (Asks 65536 ∷ []) start (with_waiting (65536 ∷ [])) → ⊥
no-such-ticket h = grind arith

-- a node sends only to neighbours, and takes only from neighbours
not-to-others : (f : Frame) (last : LocalState) → Leads middle (Sends 1 f ∷ []) start last → ⊥
not-to-others f last h = let a = h.0 in grind (arith, common_steps)

not-from-others : (f : Frame) (last : LocalState) → Leads middle (Takes 1 f ∷ []) start last → ⊥
not-from-others f last h = let a = h.0 in grind (arith, common_steps)

-- it sends the frame of the port, as its state has it then, and no other
other-number : (f : Frame) (last : LocalState) → f.seq ≡ 3 → Leads middle (Sends 0 f ∷ []) start last → ⊥
other-number f last three h = let e = ap (λ g. g.seq) h.1 in grind (arith, common_steps)

-- what is sent to a neighbour and what is taken from it are kept apart, and in order
taken-apart : (f g : Frame) → taken_from 2 (Takes 2 f ∷ Sends 2 f ∷ Takes 0 f ∷ Takes 2 g ∷ []) ≡ f ∷ g ∷ []
taken-apart f g = refl

sent-apart : (f g : Frame) → sent_to 2 (Takes 2 f ∷ Sends 2 g ∷ Ticks ∷ Sends 0 f ∷ []) ≡ g ∷ []
sent-apart f g = refl

not-the-other-order : (f g : Frame) → f.seq ≡ 1 → g.seq ≡ 2 → taken_from 2 (Takes 2 f ∷ Takes 2 g ∷ []) ≡ g ∷ f ∷ [] → ⊥
not-the-other-order f g one two e =
    let same : ◌≡◌ {A = List Frame} (f ∷ g ∷ []) (g ∷ f ∷ []) = e in
    let first : f ≡ g = cc in
    let numbers = ap (λ x. x.seq) first in grind arith
