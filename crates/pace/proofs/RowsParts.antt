-- Small examples of the parts of each rule: what is the same, how often a frame came, what is over; and ones that fail.
use Rattle.std.proofs.Common.{◌≡◌, ℕ, true, false, [], ◌∷◌, map, Some, None, refl}
use Rattle.topology.specs.declared.frame.Payload.{Payload}
use Rattle.topology.specs.declared.frame.Frame.{Frame}
use Rattle.pace.specs.declared.node.Outlook.{Outlook}
use Rattle.pace.specs.declared.port.PortSight.{PortSight}
use Rattle.pace.specs.declared.port.Calling.TheVariants.{Done, Begins, GoesOn}
use Rattle.pace.specs.Clock.{is_over}
use Rattle.pace.specs.Nodes.{lease_runs}
use Rattle.pace.specs.Plans.{port_of}
use Rattle.pace.specs.Ports.{calls_after, fresh_port, has_question, is_calling, is_new_after, is_news, one_more, same_frame, same_node, same_payload, same_place, times_after, times_given}

abbrev says : ℕ → ℕ → Payload
says parent ring = record { distance = 1; parent = Some parent; ring = ring }

abbrev frame : ℕ → Payload → Frame
frame seq payload = record { seq = seq; ack = 2; payload = payload }

-- ---- the same

node : (same_node (Some 3) (Some 3) ≡ true) × (same_node None None ≡ true)
node = (refl, refl)

node_not : (same_node (Some 3) (Some 4) ≡ false) × (same_node None (Some 0) ≡ false)
node_not = (refl, refl)

-- the value of the machine is no place
place : same_place (says 0 5) (says 0 6) ≡ true
place = refl

place_not-parent : same_place (says 0 5) (says 2 5) ≡ false
place_not-parent = refl

payload : same_payload (says 0 5) (says 0 5) ≡ true
payload = refl

payload_not-value : same_payload (says 0 5) (says 0 6) ≡ false
payload_not-value = refl

frames : same_frame (frame 3 (says 0 5)) (frame 3 (says 0 5)) ≡ true
frames = refl

frames_not-number : same_frame (frame 3 (says 0 5)) (frame 4 (says 0 5)) ≡ false
frames_not-number = refl

-- ---- how often

counts : map one_more (7 ∷ 4294967294 ∷ []) ≡ 8 ∷ 4294967295 ∷ []
counts = refl

counts_not-on : one_more 4294967295 ≡ 4294967295
counts_not-on = refl

again : times_after (Some (frame 3 (says 0 5))) 6 (frame 3 (says 0 5)) ≡ 6
again = refl

again_not-other : (times_after (Some (frame 3 (says 0 5))) 6 (frame 4 (says 0 5)) ≡ 0) × (times_after None 6 (frame 4 (says 0 5)) ≡ 0)
again_not-other = (refl, refl)

given : times_given (frame 3 (says 0 5)) (record fresh_port { given = Some (frame 3 (says 0 5)); given_times = 6 }) ≡ 6
given = refl

given_not-heard : times_given (frame 3 (says 0 5)) (record fresh_port { heard = Some (frame 3 (says 0 5)); heard_times = 6 }) ≡ 0
given_not-heard = refl

-- ---- calls, questions and news

-- a call goes on with the first frame that is given for it, and is out with the next fourth
calls : map (calls_after 8) (Done ∷ Begins ∷ GoesOn ∷ []) ≡ Done ∷ GoesOn ∷ Done ∷ []
calls = refl

calls_not-out : calls_after 7 GoesOn ≡ GoesOn
calls_not-out = refl

calling : map is_calling (Begins ∷ GoesOn ∷ Done ∷ []) ≡ true ∷ true ∷ false ∷ []
calling = refl

-- the machine's value 5 is staged, and another one is present
abbrev sight : PortSight
sight = record { takes_frames = true; frame = frame 3 (says 0 5); present = says 0 6 }

asks : has_question sight false ≡ true
asks = refl

-- while the node holds, that is no question, but another parent is
asks_not-holding : has_question sight true ≡ false
asks_not-holding = refl

asks-parent : has_question (record sight { present = says 2 5 }) true ≡ true
asks-parent = refl

new : (is_new_after None (frame 3 (says 0 5)) ≡ true) × (is_news (frame 3 (says 0 6)) (record fresh_port { given = Some (frame 3 (says 0 5)) }) ≡ true)
new = (refl, refl)

-- another number alone is no news
new_not-number : (is_new_after (Some (frame 3 (says 0 5))) (frame 4 (says 0 5)) ≡ false)
    × (is_news (frame 4 (says 0 5)) (record fresh_port { given = Some (frame 3 (says 0 5)) }) ≡ false)
new_not-number = (refl, refl)

-- ---- times and loans

-- the span is over at its end, or if it lies ahead
over : (is_over 1000 500 1500 ≡ true) × (is_over 1000 500 999 ≡ true)
over = (refl, refl)

over_not-before : (is_over 1000 500 1499 ≡ false) × (is_over 1000 500 1000 ≡ false)
over_not-before = (refl, refl)

abbrev lending : Outlook
lending = record { waits = false; lends = true; has_lease = true; let_go = false }

runs : lease_runs lending ≡ true
runs = refl

runs_not-without : (lease_runs (record lending { has_lease = false }) ≡ false) × (lease_runs (record lending { lends = false }) ≡ false)
runs_not-without = (refl, refl)

kept : port_of (record fresh_port { owes = true } ∷ []) 0 ≡ record fresh_port { owes = true }
kept = refl

kept_not-there : port_of (record fresh_port { owes = true } ∷ []) 1 ≡ fresh_port
kept_not-there = refl
