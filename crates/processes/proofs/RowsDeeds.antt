-- Single marks, deeds and passages, and how many frames a connection holds, checked by hand.
use Rattle.std.proofs.Common.{◌≡◌, ◌≤◌, ◌<◌, ℕ, List, [], ◌∷◌, Some, None, true, false, refl, arith}
use Rattle.link_model.specs.declared.item.Item.TheVariants as item
use Rattle.lock_desk.specs.Desk.{DeskState, no_desk}
use Rattle.node_core.specs.Site.{Site, site_of}
use Rattle.node_core.specs.State.{LocalState}
use Rattle.node_core.specs.Deeds.{Ticks, Sends, Takes, Asks, Leaves}
use Rattle.run_model.proofs.RowsTwo.{two_nodes, calm}
use Rattle.processes.specs.Links.{Accepts, Gives, Loses}
use Rattle.processes.specs.Marks.{Does, Drops, mark_moment, act_on}
use Rattle.processes.specs.Timing.{Passage, after_deed, at_first, is_since, passages}
use Rattle.processes.specs.Connections.{IsWithin}
use Rattle.processes.proofs.RowsLinks.{numbered}

-- ---- when a mark happens

-- a loss at 3 happens in the first half of that instant, and a deed in the second
loss-at : mark_moment (Drops 3 0 1 2) ≡ 6
loss-at = refl

deed-at : mark_moment (Does 3 1 (Asks 9)) ≡ 7
deed-at = refl

-- a deed at 3 happens before what is lost at 4, and not before what is lost at 3
deed-before : mark_moment (Does 3 1 Ticks) < mark_moment (Drops 4 0 1 0)
deed-before = omega arith

deed_not-before : ¬ (mark_moment (Does 3 1 Ticks) ≤ mark_moment (Drops 3 0 1 0))
deed_not-before l = omega (arith, l)

-- ---- what a mark is for a link

-- the link from 0 to 1 loses at 4 what stands at place 2
loss-on : act_on 0 1 (Drops 4 0 1 2) ≡ Loses 4 2 ∷ []
loss-on = refl

-- the same loss is nothing for the link back, for another link from 0, or for another link to 1
loss_not-back : act_on 1 0 (Drops 4 0 1 2) ≡ []
loss_not-back = refl

loss_not-beside : (act_on 0 2 (Drops 4 0 1 2) ≡ []) × (act_on 2 1 (Drops 4 0 1 2) ≡ [])
loss_not-beside = (refl, refl)

-- node 0 sends to node 1: the link from 0 to 1 accepts that frame, and the link back does nothing
send-on : act_on 0 1 (Does 4 0 (Sends 1 (numbered 3))) ≡ Accepts 4 (numbered 3) ∷ []
send-on = refl

send_not-back : act_on 1 0 (Does 4 0 (Sends 1 (numbered 3))) ≡ []
send_not-back = refl

-- a tick is nothing for any link
tick_not-on : act_on 0 1 (Does 4 0 Ticks) ≡ []
tick_not-on = refl

-- ---- what a deed makes of a node

abbrev root : Site
root = site_of two_nodes 0

abbrev child : Site
child = site_of two_nodes 1

-- the root of the calm world, with that desk
abbrev root_at : DeskState → LocalState
root_at desk = record (calm.node 0) { desk = desk }

abbrev waiting : List ℕ → DeskState
waiting tickets = record no_desk { waiting = tickets }

-- the root is privileged, so its tick lends to the first that waits; the child's lends to nobody
tick-lends : (after_deed root Ticks (root_at (waiting (7 ∷ 8 ∷ [])))).desk.lent ≡ Some 7
tick-lends = refl

tick_not-lends : (after_deed child Ticks (record (calm.node 1) { desk = waiting (7 ∷ []) })).desk.lent ≡ None
tick_not-lends = refl

-- a send leaves the node as it is, and a take of the same frame does not
send-leaves : (s : LocalState) → after_deed child (Sends 0 (numbered 1)) s ≡ s
send-leaves s = refl

take-heard : ((after_deed child (Takes 0 (numbered 1)) (calm.node 1)).port 0).last ≡ 1
take-heard = refl

-- a frame whose number is not a counter changes nothing
take_not-out_of_range : after_deed child (Takes 0 (numbered 9)) (calm.node 1) ≡ calm.node 1
take_not-out_of_range = refl

-- a ticket that asks waits after all others; one that waits already changes nothing
ask-last : after_deed root (Asks 7) (root_at (waiting (9 ∷ []))) ≡ root_at (waiting (9 ∷ 7 ∷ []))
ask-last = refl

ask_not-twice : after_deed root (Asks 9) (root_at (waiting (9 ∷ []))) ≡ root_at (waiting (9 ∷ []))
ask_not-twice = refl

-- a ticket that waits leaves the others; the borrower ends its loan, and nobody borrows next
leave-waiting : after_deed root (Leaves 7) (root_at (waiting (9 ∷ 7 ∷ 8 ∷ []))) ≡ root_at (waiting (9 ∷ 8 ∷ []))
leave-waiting = refl

leave-borrowed : after_deed root (Leaves 7) (root_at (record (waiting (9 ∷ [])) { lent = Some 7; left = 4 }))
    ≡ root_at (record (waiting (9 ∷ [])) { served = true })
leave-borrowed = refl

-- ---- passages

-- a frame that was accepted at 5 and given at 7
abbrev passage : Passage
passage = record { accepted = Some 5; given = 7 }

passage-is : passages [] (Accepts 5 (numbered 1) ∷ Gives 7 (numbered 1) ∷ []) ≡ passage ∷ []
passage-is = refl

-- a frame that was accepted and not given makes none
passage_not-given : passages [] (Accepts 5 (numbered 1) ∷ []) ≡ []
passage_not-given = refl

-- a frame that was under way at first was accepted at no instant, not even at 0
abbrev given_at_first : List Passage
given_at_first = passages (at_first (item.Frame (numbered 1) ∷ [])) (Gives 7 (numbered 1) ∷ [])

passage-at_first : given_at_first ≡ record { accepted = None; given = 7 } ∷ []
passage-at_first = refl

passage_not-accepted : ¬ (given_at_first ≡ record passage { accepted = Some 0 } ∷ [])
passage_not-accepted e = grind (arith, e)

-- ---- since

-- what was accepted at 5 or at 6 was accepted since 5, and what was accepted at 4 was not
since-five : (is_since 5 (Some 5) ≡ true) × (is_since 5 (Some 6) ≡ true)
since-five = (refl, refl)

since_not-earlier : is_since 5 (Some 4) ≡ false
since_not-earlier = refl

-- what was under way at first was not accepted since 0
since_not-at_first : is_since 0 None ≡ false
since_not-at_first = refl

-- ---- how many frames a connection holds

-- a connection that holds one frame accepts the next once that one is given
within-one : IsWithin 1 1 (Gives 1 (numbered 1) ∷ Accepts 2 (numbered 2) ∷ Gives 3 (numbered 2) ∷ [])
within-one = (omega arith, tt)

-- and not before
within_not-two : ¬ IsWithin 1 1 (Accepts 2 (numbered 2) ∷ Gives 3 (numbered 1) ∷ [])
within_not-two h = omega (arith, h.0)

-- no second frame is given if only one was under way
within_not-given : ¬ IsWithin 2 1 (Gives 1 (numbered 1) ∷ Gives 2 (numbered 2) ∷ [])
within_not-given h = h

-- nothing may be lost, though there is room
within_not-lost : ¬ IsWithin 2 0 (Accepts 1 (numbered 1) ∷ Loses 2 0 ∷ [])
within_not-lost h = h.1
