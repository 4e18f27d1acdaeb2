-- Each refusal, on two nodes and on a square, and which of two comes first.
use Rattle.std.proofs.Common.{◌≡◌, [], ◌∷◌, Some, None, true, false, refl}
use Rattle.std.specs.List.{range_with_len}
use Rattle.std.specs.Prelude.{[], ◌∷◌}
use Rattle.link_model.specs.topology.Network.{Network}
use Rattle.link_model.specs.topology.declared.frame.Payload.{Payload}
use Rattle.link_model.specs.declared.item.Item.TheVariants.{Noise, Frame}
use Rattle.run_model.specs.World.{World}
use Rattle.run_model.specs.Start.{default_world}
use Rattle.run_model.specs.Step.{refusal, step, with_desk}
use Rattle.run_model.specs.Project.{present}
use Rattle.run_model.specs.declared.event.Event.TheVariants.{Send, Take, Lose, Tick, Ask, Leave, Damage}
use Rattle.run_model.specs.declared.event.EventFault.TheVariants.{NoNode, NoLink, NoItem, OutOfRange, Full, Twice, Stranger}
use Rattle.run_model.specs.declared.event.Harm.TheVariants as harm
use Rattle.run_model.proofs.RowsTwo.{two_nodes}

-- 0 - 1 - 3 - 2 - 0, with root 0
abbrev pub square : Network
square = record { nodes = 4; root = 0; capacity = 1; lease = 0; edges = (0, 1) ∷ (0, 2) ∷ (1, 3) ∷ (2, 3) ∷ [] }

abbrev start : World
start = default_world two_nodes

no-node : refusal start (Tick 2) ≡ Some NoNode
no-node = refl

-- 0 and 3 are opposite corners
no-link : refusal (default_world square) (Send 0 3) ≡ Some NoLink
no-link = refl

-- the check for a node comes first
no-node_before_no_link : refusal (default_world square) (Send 0 4) ≡ Some NoNode
no-node_before_no_link = refl

no-item : refusal start (Lose 0 1 0) ≡ Some NoItem
no-item = refl

-- a take on an empty link is fine
take-of_nothing : refusal start (Take 0 1) ≡ None
take-of_nothing = refl

-- the ring values of two nodes are 0 to 6
out-of_range : refusal start (Damage (harm.Value 0 1 7)) ≡ Some OutOfRange
out-of_range = refl

no-link_before_out_of_range : refusal start (Damage (harm.Value 0 0 7)) ≡ Some NoLink
no-link_before_out_of_range = refl

-- a full link has no room for one more item
no-room : refusal (step start (Damage (harm.Item 0 1 Noise))) (Damage (harm.Item 0 1 Noise)) ≡ Some OutOfRange
no-room = refl

-- 64 tickets wait
abbrev crowd : World
crowd = with_desk start 0 (record { waiting = range_with_len 0 64; lent = None; left = 0; served = false })

full : refusal crowd (Ask 0 64) ≡ Some Full
full = refl

full-before_twice : refusal crowd (Ask 0 5) ≡ Some Full
full-before_twice = refl

twice : refusal (step start (Ask 0 5)) (Ask 0 5) ≡ Some Twice
twice = refl

stranger : refusal (step start (Ask 0 5)) (Leave 0 6) ≡ Some Stranger
stranger = refl

-- the first refusal counts: NoNode comes before Full and Twice, before Stranger, and before
-- OutOfRange
no-node_before_full : refusal crowd (Ask 2 64) ≡ Some NoNode
no-node_before_full = refl

no-node_before_stranger : refusal start (Leave 2 6) ≡ Some NoNode
no-node_before_stranger = refl

no-node_before_range : refusal start (Damage (harm.Own 2 9 None)) ≡ Some NoNode
no-node_before_range = refl

-- at every node a ticket is below 65536
no-ticket : refusal crowd (Ask 0 65536) ≡ Some OutOfRange
no-ticket = refl

no-link_before_no_item : refusal (default_world square) (Lose 0 3 0) ≡ Some NoLink
no-link_before_no_item = refl

-- ---- harms: what each may write, and what it may not

own-fits : refusal start (Damage (harm.Own 1 2 (Some 1))) ≡ None
own-fits = refl

own-too_far : refusal start (Damage (harm.Own 1 3 None)) ≡ Some OutOfRange
own-too_far = refl

own-no_such_parent : refusal start (Damage (harm.Own 1 2 (Some 2))) ≡ Some OutOfRange
own-no_such_parent = refl

-- the numbers of links of capacity 1 are 0 to 4
counters-fit : refusal start (Damage (harm.Counters 0 1 4 4)) ≡ None
counters-fit = refl

counters-beyond : refusal start (Damage (harm.Counters 0 1 4 5)) ≡ Some OutOfRange
counters-beyond = refl

abbrev far : Payload
far = record { distance = 2; parent = Some 1; ring = 6 }

abbrev too_far : Payload
too_far = record { distance = 3; parent = Some 1; ring = 6 }

payloads-fit : (refusal start (Damage (harm.Staged 0 1 far)) ≡ None) × (refusal start (Damage (harm.Copy 0 1 far)) ≡ None)
payloads-fit = (refl, refl)

payloads-beyond : (refusal start (Damage (harm.Staged 0 1 too_far)) ≡ Some OutOfRange) × (refusal start (Damage (harm.Copy 0 1 too_far)) ≡ Some OutOfRange)
payloads-beyond = (refl, refl)

-- there is no lease, so no ticks are left of a loan; and a ticket that waits does not have the
-- lock
desk-fits : refusal start (Damage (harm.Desk 0 (Some 5) 0 true)) ≡ None
desk-fits = refl

desk-beyond_the_lease : refusal start (Damage (harm.Desk 0 (Some 5) 1 true)) ≡ Some OutOfRange
desk-beyond_the_lease = refl

desk-lends_to_who_waits : refusal (step start (Ask 0 5)) (Damage (harm.Desk 0 (Some 5) 0 true)) ≡ Some OutOfRange
desk-lends_to_who_waits = refl

item-beyond : refusal start (Damage (harm.Item 0 1 (Frame (record { seq = 5; ack = 0; payload = far })))) ≡ Some OutOfRange
item-beyond = refl

-- ---- and what they write

own-is_written : ((step start (Damage (harm.Own 1 2 (Some 1)))).node 1).parent ≡ Some 1
own-is_written = refl

counters-are_written : (((step start (Damage (harm.Counters 0 1 3 4))).node 0).port 1).last ≡ 4
counters-are_written = refl

staged-is_written : (((step start (Damage (harm.Staged 0 1 far))).node 0).port 1).staged ≡ far
staged-is_written = refl

copy-is_written : (((step start (Damage (harm.Copy 0 1 far))).node 0).port 1).copy ≡ far
copy-is_written = refl

value-is_written : ((step start (Damage (harm.Value 0 1 6))).node 0).value 1 ≡ 6
value-is_written = refl

desk-is_written : ((step start (Damage (harm.Desk 0 (Some 5) 0 true))).node 0).desk ≡ record { waiting = []; lent = Some 5; left = 0; served = true }
desk-is_written = refl

item-is_written : (step start (Damage (harm.Item 0 1 Noise))).link 0 1 ≡ Noise ∷ []
item-is_written = refl

link-is_emptied : (step (step start (Damage (harm.Item 0 1 Noise))) (Damage (harm.Empty 0 1))).link 0 1 ≡ []
link-is_emptied = refl

-- ---- a take of a frame

-- node 0 takes a frame in which node 1 says that 0 is its parent: what 0 then stages for 1 is what
-- it would have said before it knew its child
abbrev child : Payload
child = record { distance = 1; parent = Some 0; ring = 3 }

abbrev met : World
met = step (step start (Damage (harm.Own 0 0 None))) (Damage (harm.Value 0 1 5))

abbrev said : World
said = step (step met (Damage (harm.Item 1 0 (Frame (record { seq = 1; ack = 0; payload = child }))))) (Take 1 0)

said-copies : ((said.node 0).port 1).copy ≡ child
said-copies = refl

said-stages_before : ((said.node 0).port 1).staged ≡ record { distance = 0; parent = None; ring = 0 }
said-stages_before = refl

-- afterwards, 0 would say its value for its child
said-says_now : present said 0 1 ≡ record { distance = 0; parent = None; ring = 5 }
said-says_now = refl
