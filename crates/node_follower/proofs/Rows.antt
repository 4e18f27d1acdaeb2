-- Accounts and states that are small enough to see through.
use Rattle.std.proofs.Common.{◌≡◌, ℕ, List, true, false, [], ◌∷◌, Some, None, refl, ap, sym, ◌∙◌}
use Rattle.std.proofs.lemmas.List.Elements.{All-nil}
use Rattle.topology.specs.Network.{Network}
use Rattle.topology.specs.declared.frame.Frame.{Frame}
use Rattle.flight_records.specs.declared.entry.Deed.TheVariants.{Ticks, Takes, Asks, Connects}
use Rattle.flight_records.specs.declared.entry.StatePart.TheVariants.{Start, Own, Waits, Loan, Whole}
use Rattle.node_core.specs.Deeds as account
use Rattle.node_core.specs.Site.{Site}
use Rattle.node_core.specs.State.{LocalState, default_node}
use Rattle.topology.specs.declared.frame.Ranges.{Ranges}
use Rattle.node_follower.specs.Following.{account_of, FitsNetwork, LeadElsewhere}
use Rattle.node_follower.specs.Parts.{state_parts}

abbrev frame : Frame
frame = record { seq = 5; ack = 4; payload = record { distance = 1; parent = None; ring = 2 } }

-- a connection is no deed of the node's own
own-deeds : account_of (Takes 2 frame ∷ Connects 2 ∷ Ticks ∷ Asks 7 ∷ []) ≡ account.Takes 2 frame ∷ account.Ticks ∷ account.Asks 7 ∷ []
own-deeds = refl

not-the_connection : account_of (Connects 2 ∷ []) ≡ account.Ticks ∷ [] → ⊥
not-the_connection e = absurd cc

-- of a node without a neighbour, the queue comes in its order after distance and parent, and then the loan
alone : (site : Site) (s : LocalState) → site.neighbours ≡ [] → s.desk ≡ record { waiting = 9 ∷ 3 ∷ []; lent = Some 4; left = 0; served = true }
    → state_parts 7 site s ≡ Start 7 site.id ∷ Own s.distance s.parent ∷ Waits 9 ∷ Waits 3 ∷ Loan (Some 4) 0 true ∷ Whole ∷ []
alone site s none desk = rw (none, desk) refl

-- node 1 of a line of three
abbrev sizes : Ranges
sizes = record { nodes = 3; counter = 5; ring = 13 }

abbrev middle : Site
middle = record { id = 1; is_root = false; ranges = sizes; lease = 0; neighbours = 0 ∷ 2 ∷ [] }

abbrev start : LocalState
start = default_node sizes

-- a ticket that asks leads a node elsewhere than to where it stood
asks-elsewhere : LeadElsewhere middle (Asks 7 ∷ []) start start
asks-elsewhere own last leads same =
    let e : ◌≡◌ {A = List ℕ} (7 ∷ []) [] = sym (ap (λ s. s.desk.waiting) leads.1) ∙ ap (λ d. d.waiting) same.0.2 in
    absurd cc

-- no deeds lead a node to where it stands
not-without_deeds : LeadElsewhere (record middle { neighbours = [] }) [] start start → ⊥
not-without_deeds h = h (All-nil _) start refl ((refl, refl, refl), All-nil _)

-- node 1 of a line of three that becomes a triangle: 5 is 2*1 + 3, and 13 is 6*(3-1) + 1
abbrev triangle : Network
triangle = record { nodes = 3; root = 0; capacity = 1; lease = 0; edges = (0, 1) ∷ (1, 2) ∷ (0, 2) ∷ [] }

fits-triangle : FitsNetwork triangle middle
fits-triangle = refl

-- another root, if this node is it neither before nor after
fits-root : FitsNetwork (record triangle { root = 2 }) middle
fits-root = refl

fits_not-own_root : FitsNetwork (record triangle { root = 1 }) middle → ⊥
fits_not-own_root e = let same : true ≡ false = ap (λ s. s.is_root) e in absurd cc

fits_not-lease : FitsNetwork (record triangle { lease = 4 }) middle → ⊥
fits_not-lease e = let same : ◌≡◌ {A = ℕ} 4 0 = ap (λ s. s.lease) e in absurd cc

fits_not-nodes : FitsNetwork (record triangle { nodes = 4 }) middle → ⊥
fits_not-nodes e = let same : ◌≡◌ {A = ℕ} 4 3 = ap (λ s. s.ranges.nodes) e in absurd cc
