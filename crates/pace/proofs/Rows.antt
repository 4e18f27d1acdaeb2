-- Small examples of each rule, and ones that fail. Times are microseconds; a frame is repeated
-- after 8,000, and a hold lasts 2,000.
use Rattle.std.proofs.Common.{◌≡◌, ℕ, true, false, [], ◌∷◌, map, Some, refl}
use Rattle.topology.specs.declared.frame.Payload.{Payload}
use Rattle.topology.specs.declared.frame.Frame.{Frame}
use Rattle.pace.specs.declared.node.Outlook.{Outlook}
use Rattle.pace.specs.declared.pace.Manner.{Manner}
use Rattle.pace.specs.declared.port.PortSight.{PortSight}
use Rattle.pace.specs.declared.port.PortPace.{PortPace}
use Rattle.pace.specs.declared.port.Hearing.TheVariants as hearing
use Rattle.pace.specs.declared.port.Calling.TheVariants as calling
use Rattle.pace.specs.Ports.{fresh_port, is_due, given_port, heard_port, hearing_of, is_soon, times_heard}
use Rattle.pace.specs.Nodes.{quiet_node, holds, may_tick, called, moved_on, calls_for_haste}
use Rattle.pace.specs.Plans.{called_port, goes_on, rest_at, node_rest}

-- distance 1, parent 0, and this value of the machine
saying : ℕ → Payload
saying ring = record { distance = 1; parent = Some 0; ring = ring }

framed : ℕ → Frame
framed ring = record { seq = 3; ack = 2; payload = saying ring }

-- the machine's value 5 is staged, and this one is present
seeing : ℕ → PortSight
seeing ring = record { takes_frames = true; frame = framed 5; present = saying ring }

-- the staged frame was given once, at 10,000
given_once : PortPace
given_once = given_port (framed 5) 10000 fresh_port

manner : Manner
manner = record { hold = 2000; repeat = 8000 }

-- nobody waits, nobody borrows, and there is a lease
idle : Outlook
idle = record { waits = false; lends = false; has_lease = true; let_go = false }

-- a frame is due if none was given yet, and not if none is taken
due-first : is_due (seeing 5) false 8000 10000 fresh_port ≡ true
unfolding seeing framed saying
due-first = refl

due_not-loose : is_due (record (seeing 5) { takes_frames = false }) false 8000 10000 fresh_port ≡ false
unfolding seeing framed saying
due_not-loose = refl

-- it was just given, and all is said; then the repetition time is over, or lies ahead
due_not-given : is_due (seeing 5) false 8000 10001 given_once ≡ false
unfolding seeing framed saying given_once
due_not-given = refl

due-repeated : is_due (seeing 5) false 8000 18000 given_once ≡ true
unfolding seeing framed saying given_once
due-repeated = refl

due-ahead : is_due (seeing 5) false 8000 9999 given_once ≡ true
unfolding seeing framed saying given_once
due-ahead = refl

-- the payload is news
due-news : is_due (record (seeing 6) { frame = framed 6 }) false 8000 10001 given_once ≡ true
unfolding seeing framed saying given_once
due-news = refl

-- a question: what is present is not staged. It is given twice, and not while the node holds, but
-- for its distance and its parent
due-question : is_due (seeing 6) false 8000 10001 given_once ≡ true
unfolding seeing framed saying given_once
due-question = refl

due_not-asked : is_due (seeing 6) false 8000 10001 (given_port (framed 5) 10000 given_once) ≡ false
unfolding seeing framed saying given_once
due_not-asked = refl

due_not-held : is_due (seeing 6) true 8000 10001 given_once ≡ false
unfolding seeing framed saying given_once
due_not-held = refl

due-place : is_due (record (seeing 5) { present = record { distance = 2; parent = Some 0; ring = 5 } }) true 8000 10001 given_once ≡ true
unfolding seeing framed saying given_once
due-place = refl

-- an answer is owed to the second equal frame, and no longer once a frame was given
owes : is_due (seeing 5) true 8000 10001 (heard_port (framed 9) 9000 (heard_port (framed 9) 5000 given_once)) ≡ true
unfolding seeing framed saying given_once
owes = refl

owes_not-first : is_due (seeing 5) true 8000 10001 (heard_port (framed 9) 5000 given_once) ≡ false
unfolding seeing framed saying given_once
owes_not-first = refl

owes_not-answered : (given_port (framed 5) 10001 (heard_port (framed 9) 9000 (heard_port (framed 9) 5000 given_once))).owes ≡ false
unfolding seeing framed saying given_once
owes_not-answered = refl

-- the second equal frame is a question, the third nothing, the fourth a call, and so is the eighth;
-- but not one that comes late
hears : map (λ equal. hearing_of equal true) (1 ∷ 3 ∷ 4 ∷ 6 ∷ 8 ∷ []) ≡ hearing.Frame ∷ hearing.Frame ∷ hearing.Call ∷ hearing.Frame ∷ hearing.Call ∷ []
hears = refl

hears-late : map (λ equal. hearing_of equal false) (2 ∷ 4 ∷ []) ≡ hearing.Question ∷ hearing.Frame ∷ []
hears-late = refl

-- within 4 milliseconds is soon, and within 1 if frames are given again after 2; else it is not
heard_once : PortPace
heard_once = heard_port (framed 9) 5000 fresh_port

soon : map (λ now. is_soon 8000 now heard_once) (8999 ∷ 9000 ∷ []) ≡ true ∷ false ∷ []
unfolding framed saying heard_once
soon = refl

soon_not-slow : is_soon 100000 9000 heard_once ≡ false
unfolding framed saying heard_once
soon_not-slow = refl

soon-quick : map (λ now. is_soon 2000 now heard_once) (5999 ∷ 6000 ∷ []) ≡ true ∷ false ∷ []
unfolding framed saying heard_once
soon-quick = refl

-- another frame starts the count again
counts-equal : times_heard (framed 9) heard_once ≡ 2
unfolding framed saying heard_once
counts-equal = refl

counts-other : times_heard (framed 8) heard_once ≡ 1
unfolding framed saying heard_once
counts-other = refl

-- a call goes on until the frame was given four times in a row
passes_on : (given_port (framed 5) 10001 (given_port (framed 5) 10001 (called_port true given_once))).calls ≡ calling.GoesOn
unfolding framed saying given_once
passes_on = refl

passed_on : (given_port (framed 5) 10001 (given_port (framed 5) 10001 (given_port (framed 5) 10001 (called_port true given_once)))).calls ≡ calling.Done
unfolding framed saying given_once
passed_on = refl

-- a frame that was given three times: the fourth may come too late to be a call, so that four more follow
given_thrice : PortPace
given_thrice = given_port (framed 5) 26000 (given_port (framed 5) 18000 given_once)

passes_on-late : (given_port (framed 5) 30001 (called_port true given_thrice)).calls ≡ calling.GoesOn
unfolding framed saying given_once given_thrice
passes_on-late = refl

given_seven_times : PortPace
given_seven_times = given_port (framed 5) 30004 (given_port (framed 5) 30003 (given_port (framed 5) 30002 (given_port (framed 5) 30001 (called_port true given_thrice))))

passes_on-seventh : given_seven_times.calls ≡ calling.GoesOn
unfolding framed saying given_once given_thrice given_seven_times
passes_on-seventh = refl

passed_on-eighth : (given_port (framed 5) 30005 given_seven_times).calls ≡ calling.Done
unfolding framed saying given_once given_thrice given_seven_times
passed_on-eighth = refl

-- another call makes no difference to one that is under way
passes_on-once : (called_port true (given_port (framed 5) 10001 (called_port true given_once))).calls ≡ calling.GoesOn
unfolding framed saying given_once
passes_on-once = refl

-- nobody calls: nothing goes on
passes_not : (given_port (framed 5) 10001 (called_port false given_once)).calls ≡ calling.Done
unfolding framed saying given_once
passes_not = refl

-- a frame is due for the sake of a call
due-call : is_due (seeing 5) true 8000 10001 (called_port true given_once) ≡ true
unfolding seeing framed saying given_once
due-call = refl

-- two tree neighbours: a call is good for eight moves; within 25 milliseconds a second one goes no
-- further
call-credit : (called 2 10000 quiet_node).credit ≡ 8
call-credit = refl

goes : goes_on hearing.Call 2 10000 quiet_node ≡ true
goes = refl

goes_not-again : goes_on hearing.Call 2 30000 (called 2 10000 quiet_node) ≡ false
goes_not-again = refl

goes-later : goes_on hearing.Call 2 35000 (called 2 10000 quiet_node) ≡ true
goes-later = refl

goes_not-question : goes_on hearing.Question 2 10000 quiet_node ≡ false
goes_not-question = refl

-- a move begins a hold, and a hasty move uses one credit and begins none; a call is forgotten after
-- 100 milliseconds, and credit is cut to what a call gives
holds-moved : holds idle manner 10001 (moved_on true 2 manner 10000 quiet_node) ≡ true
unfolding idle manner
holds-moved = refl

holds_not-over : holds idle manner 12000 (moved_on true 2 manner 10000 quiet_node) ≡ false
unfolding idle manner
holds_not-over = refl

hasty : moved_on true 2 manner 10001 (called 2 10000 quiet_node)
    ≡ record { hold_until = 0; credit = 7; called_at = 10000; ticked_at = 10001 }
unfolding manner
hasty = refl

forgotten : (moved_on true 2 manner 110000 (called 2 10000 quiet_node)).hold_until ≡ 112000
unfolding manner
forgotten = refl

cut : (moved_on false 2 manner 10001 (record (called 2 10000 quiet_node) { credit = 4000000000 })).credit ≡ 8
unfolding manner
cut = refl

-- no hold if somebody waits, or has just let go, or if its end lies further ahead than a hold
holds_not-waited : holds (record idle { waits = true }) manner 10001 (moved_on true 2 manner 10000 quiet_node) ≡ false
unfolding idle manner
holds_not-waited = refl

holds_not-let_go : holds (record idle { let_go = true }) manner 10001 (moved_on true 2 manner 10000 quiet_node) ≡ false
unfolding idle manner
holds_not-let_go = refl

holds_not-far : holds idle manner 10000 (record quiet_node { hold_until = 12001 }) ≡ false
unfolding idle manner
holds_not-far = refl

-- a node at which somebody waits and nobody borrows calls, and again after 50 milliseconds or if
-- its haste runs low
calls : calls_for_haste (record idle { waits = true }) 2 10000 quiet_node ≡ true
unfolding idle
calls = refl

calls_not-lent : calls_for_haste (record idle { waits = true; lends = true }) 2 10000 quiet_node ≡ false
unfolding idle
calls_not-lent = refl

calls_not-again : calls_for_haste (record idle { waits = true }) 2 59999 (called 2 10000 quiet_node) ≡ false
unfolding idle
calls_not-again = refl

calls-again : calls_for_haste (record idle { waits = true }) 2 60000 (called 2 10000 quiet_node) ≡ true
unfolding idle
calls-again = refl

calls-low : calls_for_haste (record idle { waits = true }) 2 10001 (record (called 2 10000 quiet_node) { credit = 2 }) ≡ true
unfolding idle
calls-low = refl

-- ticks are left out while a loan with a lease runs, and then for 2 milliseconds
ticks-idle : may_tick idle 10001 (record quiet_node { ticked_at = 10000 }) ≡ true
unfolding idle
ticks-idle = refl

ticks_not-leased : may_tick (record idle { lends = true }) 11999 (record quiet_node { ticked_at = 10000 }) ≡ false
unfolding idle
ticks_not-leased = refl

ticks-leased : may_tick (record idle { lends = true }) 12000 (record quiet_node { ticked_at = 10000 }) ≡ true
unfolding idle
ticks-leased = refl

ticks-no_lease : may_tick (record idle { lends = true; has_lease = false }) 10001 (record quiet_node { ticked_at = 10000 }) ≡ true
unfolding idle
ticks-no_lease = refl

ticks-ahead : may_tick (record idle { lends = true }) 10000 (record quiet_node { ticked_at = 10001 }) ≡ true
unfolding idle
ticks-ahead = refl

-- rests: nothing if a frame is due, the time to the repetition, 2 milliseconds at most, and no
-- longer than the hold
rests-due : rest_at (seeing 5) false 8000 10000 fresh_port ≡ 0
unfolding seeing framed saying
rests-due = refl

rests-soon : rest_at (seeing 5) false 8000 17500 given_once ≡ 500
unfolding seeing framed saying given_once
rests-soon = refl

rests-most : rest_at (seeing 5) false 8000 10001 given_once ≡ 2000
unfolding seeing framed saying given_once
rests-most = refl

rests-hold : node_rest idle manner 10500 (moved_on true 2 manner 10000 quiet_node) ≡ 1500
unfolding idle manner
rests-hold = refl
