-- Small examples of what a node says of itself, and ones that fail.
use Rattle.std.proofs.Common.{◌≡◌, ◌≢◌, ℕ, Bool, true, false, List, [], ◌∷◌, Option, Some, None, map, refl, codes, arith}
use Rattle.std.specs.Fmt.{digits}
use Rattle.lock_desk.specs.declared.act.DeskAct.TheVariants as act
use Rattle.node_log.specs.declared.event.NodeEvent.{NodeEvent}
use Rattle.node_log.specs.declared.event.NodeEvent.TheVariants as event
use Rattle.node_log.specs.declared.event.Level.TheVariants.{Warning, Notice, Info}
use Rattle.node_log.specs.declared.rate.LineRate.{LineRate}
use Rattle.node_log.specs.Events.{level_of, priority_of, level_with, is_said_at}
use Rattle.node_log.specs.Rate.{new_rate, second_of, said_in, answer_at, rate_after, answers}
use Rattle.node_log.specs.Turns.{gave_back, by_act, changed, by_link, by_desk, full_after, by_crowd, crowded_after, next_of, admitted, rate_then}
use Rattle.node_log.specs.declared.place.PlaceSeen.{PlaceSeen}
use Rattle.node_log.specs.declared.place.PlaceSeen.TheVariants.{Right, WrongSince}
use Rattle.node_log.specs.Places.{by_place, place_after}
use Rattle.node_log.specs.Line.{event_text, priority_text, left_out_text, log_line}
use Rattle.node_log.specs.Laws.{is_said}

urgent : map level_of (event.Lost 7 ∷ event.Full ∷ event.Room ∷ event.Crowded ∷ event.Astray ∷ event.InPlace ∷ [])
    ≡ Warning ∷ Warning ∷ Notice ∷ Warning ∷ Warning ∷ Notice ∷ []
urgent = refl

urgent_not-grant : level_of (event.Granted 7) ≢ Notice
urgent_not-grant = grind arith

number-info : priority_of Info ≡ 6
number-info = refl

number-notice : level_with 5 ≡ Some Notice
number-notice = refl

number_not-debug : level_with 7 ≡ None
number_not-debug = refl

said-warning : is_said_at Warning Notice ≡ true
said-warning = refl

said_not-info : is_said_at Info Notice ≡ false
said_not-info = refl

-- twenty lines were said in the third second, and one was left out
full : LineRate
full = record { second = 2; said = 20; left_out = 1 }

second-third : second_of 2999999 ≡ 2
second-third = refl

counts-third : said_in 2999999 full ≡ 20
unfolding full
counts-third = refl

counts_not-fourth : said_in 3000000 full ≡ 0
unfolding full
counts_not-fourth = refl

leaves-out : answer_at 2999999 full ≡ None
unfolding full
leaves-out = refl

says-again : answer_at 3000000 full ≡ Some 1
unfolding full
says-again = refl

counts-left_out : rate_after 2999999 full ≡ record { second = 2; said = 20; left_out = 2 }
unfolding full
counts-left_out = refl

counts-again : rate_after 3000000 full ≡ record { second = 3; said = 1; left_out = 0 }
unfolding full
counts-again = refl

says-both : answers full (2999999 ∷ 3000000 ∷ []) ≡ false ∷ true ∷ []
unfolding full
says-both = refl

begins-quiet : answer_at 5 new_rate ≡ Some 0
begins-quiet = refl

is-said : is_said true ≡ true
is-said = refl

is_not-said : is_said false ≡ false
is_not-said = refl

-- the lock: given back and granted in one turn, lost, given back alone, still lent
back-granted : gave_back (Some 3) (act.Granted 4) (Some 4) ≡ Some (event.GivenBack 3)
back-granted = refl

back_not-lost : gave_back (Some 3) (act.Lost 3) None ≡ None
back_not-lost = refl

back-gone : gave_back (Some 3) act.Quiet None ≡ Some (event.GivenBack 3)
back-gone = refl

back_not-lent : gave_back (Some 3) act.Quiet (Some 3) ≡ None
back_not-lent = refl

act-granted : by_act (act.Granted 4) ≡ Some (event.Granted 4)
act-granted = refl

act_not-quiet : by_act act.Quiet ≡ None
act_not-quiet = refl

-- links: node 1 was up
link-down : by_link 1 false (false ∷ true ∷ []) ≡ Some (event.Down 1)
link-down = refl

link_not-again : by_link 1 true (false ∷ true ∷ []) ≡ None
link_not-again = refl

link_not-beyond : by_link 64 true [] ≡ None
link_not-beyond = refl

change-up : changed 2 true false ≡ Some (event.Up 2)
change-up = refl

-- what a desk says turn after turn, by how many clients wait: further ones are refused, or may wait again
abbrev desk_says : Bool → List ℕ → List (Option NodeEvent)
desk_says is_full [] = []
desk_says is_full (waiting ∷ later) = by_desk waiting is_full ∷ desk_says (full_after waiting is_full) later

-- it is full with 64 clients, says so once, and has room when 32 wait
desk-says : desk_says false (63 ∷ 64 ∷ 64 ∷ 33 ∷ 32 ∷ 64 ∷ [])
    ≡ None ∷ Some event.Full ∷ None ∷ None ∷ Some event.Room ∷ Some event.Full ∷ []
desk-says = refl

-- the same of connections, by how many were closed and how many stand
abbrev crowd_says : Bool → List (ℕ × ℕ) → List (Option NodeEvent)
crowd_says is_crowded [] = []
crowd_says is_crowded ((closed, connected) ∷ later) =
    by_crowd closed connected is_crowded ∷ crowd_says (crowded_after closed connected is_crowded) later

-- 128 are connected, and no further one has come; then one is closed; three are; one is, in a turn in which many left later; 65 are
-- connected; and 64, so that clients may connect again
crowd-says : crowd_says false ((0, 128) ∷ (1, 128) ∷ (3, 128) ∷ (1, 10) ∷ (0, 65) ∷ (0, 64) ∷ (1, 128) ∷ [])
    ≡ None ∷ Some event.Crowded ∷ None ∷ None ∷ None ∷ Some event.Seats ∷ Some event.Crowded ∷ []
crowd-says = refl

-- the same of its place, by whether the node is in it and when the turn ended
abbrev place_says : PlaceSeen → List (Bool × ℕ) → List (Option NodeEvent)
place_says place [] = []
place_says place ((in_place, now) ∷ later) = by_place in_place now place ∷ place_says (place_after in_place now place) later

-- out of its place since second 1, which is said once after two seconds; then it is back
place-says : place_says Right ((false, 1000000) ∷ (false, 2999999) ∷ (false, 3000000) ∷ (false, 9000000) ∷ (true, 9000000) ∷ (true, 9000000) ∷ [])
    ≡ None ∷ None ∷ Some event.Astray ∷ None ∷ Some event.InPlace ∷ None ∷ []
place-says = refl

-- it is back before anything was said
place_not-said : place_says (WrongSince 1000000) ((true, 2000000) ∷ (false, 3000000) ∷ []) ≡ None ∷ None ∷ []
place_not-said = refl

place-since : place_after false 2999999 (WrongSince 1000000) ≡ WrongSince 1000000
place-since = refl

place_not-still : place_after true 3000000 (WrongSince 1000000) ≢ WrongSince 1000000
place_not-still = grind arith

next-first : next_of 3 2 ≡ 0
next-first = refl

next_not-first : next_of 3 1 ≡ 2
next_not-first = refl

admits : admitted (Some Notice) (event.Up 1) 5 new_rate ≡ Some 0
admits = refl

admits_not-info : admitted (Some Notice) (event.Granted 1) 5 new_rate ≡ None
admits_not-info = refl

counts_not-info : rate_then (Some Notice) (event.Granted 1) 5 new_rate ≡ new_rate
counts_not-info = refl

-- the words
words : map event_text (event.Up 2 ∷ event.Full ∷ event.Crowded ∷ event.Astray ∷ [])
    ≡ codes "the link to node 2 is up" ∷ codes "64 clients wait, and further ones are refused"
    ∷ codes "128 clients are connected, and further ones are closed" ∷ codes "its distance or parent has been wrong for 2 s" ∷ []
unfolding digits
words = refl

words-priority : priority_text (event.Lost 3) true ≡ codes "<4>"
unfolding digits
words-priority = refl

words_not-priority : priority_text event.Begins false ≡ []
words_not-priority = refl

words_not-none : left_out_text 0 ≡ []
words_not-none = refl

words-line : log_line 1 (event.GivenBack 3) 12 true
    ≡ codes "<6>tokentree: node 1: ticket 3 has given the lock back (12 lines were left out before)"
unfolding digits
words-line = refl
