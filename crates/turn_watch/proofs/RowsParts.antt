-- Small examples of what is kept of turns, loans and links, part by part, and ones that fail.
use Rattle.std.proofs.Common.{◌≡◌, true, false, Option, None, Some, [], ◌∷◌, refl, arith}
use Rattle.turn_watch.specs.declared.turns.Lately.{Lately}
use Rattle.turn_watch.specs.Turns.{half_minute, moved_by, moved_to, gap_noted, turn_ended, begun, longest_lately, none_kept}
use Rattle.turn_watch.specs.Loans.{no_loans, loan_length, longest_with, lately_with, loan_ended, loan_begun, counted_if}
use Rattle.turn_watch.specs.Rounds.{has_moved, machine_seen, no_rounds}
use Rattle.turn_watch.specs.declared.rounds.MachineSight.{MachineSight}
use Rattle.turn_watch.specs.Links.{down_since, is_same, link_of}
use Rattle.turn_watch.specs.Notes.{next_of}
use Rattle.turn_watch.specs.Laws.{AreUntil}

-- the half minutes are those of the clock, not of the node
half-first : half_minute 29999999 ≡ 0
half-first = refl

half-next : half_minute 30000000 ≡ 1
half-next = refl

-- gaps of 5, 6 and 7 microseconds: in half minute 4, in the one before it, and in the one before that
abbrev three : Lately
three = record { half = 4; present = 5; before = 6; earlier = 7 }

moves_not-at-once : moved_by 0 4 three ≡ three
moves_not-at-once = refl

moves-one : moved_by 1 5 three ≡ record { half = 5; present = 0; before = 5; earlier = 6 }
moves-one = refl

moves-two : moved_by 2 6 three ≡ record { half = 6; present = 0; before = 0; earlier = 5 }
moves-two = refl

moves-three : moved_by 3 7 three ≡ record { half = 7; present = 0; before = 0; earlier = 0 }
moves-three = refl

moves-by-the-clock : moved_to 150000000 three ≡ record { half = 5; present = 0; before = 5; earlier = 6 }
moves-by-the-clock = refl

-- the longest of a half minute is kept
notes-longer : (gap_noted 120000001 9 three).present ≡ 9
notes-longer = refl

notes_not-shorter : (gap_noted 120000001 4 three).present ≡ 5
notes_not-shorter = refl

-- a turn is late if more than the limit passed, and not if just that did
turn-late : (turn_ended 2200 2201 (begun 0)).late ≡ 1
turn-late = refl

turn_not-late : (turn_ended 2200 2200 (begun 0)).late ≡ 0
turn_not-late = refl

-- ends at 3 and 8, before 9; the next comes before the last, or after `now`
until : AreUntil 1 9 (3 ∷ 8 ∷ [])
until = (omega arith, (omega arith, omega arith))

until_not-back : ¬ AreUntil 1 9 (8 ∷ 3 ∷ [])
until_not-back u = omega (arith, u.1.0)

until_not-later : ¬ AreUntil 1 9 (10 ∷ [])
until_not-later u = omega (arith, u.1)

-- ---- loans

loan-length : loan_length 350 100 ≡ 250
loan-length = refl

longest-none : longest_with 350 None 70 ≡ 70
longest-none = refl

longest-longer : longest_with 350 (Some 100) 70 ≡ 250
longest-longer = refl

longest_not-shorter : longest_with 350 (Some 300) 70 ≡ 70
longest_not-shorter = refl

-- a loan of 250 microseconds that ended in the first half minute of the clock
abbrev ended : Lately
ended = record { half = 0; present = 250; before = 0; earlier = 0 }

loan-over : loan_ended 350 (record no_loans { since = Some 100 })
    ≡ record { count = 0; longest = 250; since = None; lately = ended }
loan-over = refl

-- one that ended in the next half minute is kept beside it, and is the longest of the last minute
loan-lately : (loan_ended 30000400 (record no_loans { since = Some 30000000; lately = ended })).lately
    ≡ record { half = 1; present = 400; before = 250; earlier = 0 }
loan-lately = refl

lately-longest : longest_lately 30000400 (record { half = 1; present = 400; before = 250; earlier = 0 }) ≡ 400
lately-longest = refl

-- a minute and a half after the half minute in which it ended began, it is forgotten
lately-kept : longest_lately 89999999 ended ≡ 250
lately-kept = refl

lately_not-kept : longest_lately 90000000 ended ≡ 0
lately_not-kept = refl

-- a loan that never began ended not
lately_not-none : lately_with 350 None ended ≡ ended
lately_not-none = refl

-- a loan that runs began when it began
loan-runs : loan_begun 350 (record no_loans { since = Some 100 }) ≡ record no_loans { since = Some 100 }
loan-runs = refl

loan-begins : loan_begun 350 no_loans ≡ record no_loans { since = Some 350 }
loan-begins = refl

counts_not-false : counted_if false no_loans ≡ no_loans
counts_not-false = refl

-- ---- links

same-link : is_same (record { is_up = true; made = 2 }) (record { is_up = true; made = 2 }) ≡ true
same-link = refl

same_not-down : is_same (record { is_up = true; made = 2 }) (record { is_up = false; made = 2 }) ≡ false
same_not-down = refl

same_not-made : is_same (record { is_up = true; made = 2 }) (record { is_up = true; made = 3 }) ≡ false
same_not-made = refl

link-noted : link_of (down_since 4 ∷ down_since 5 ∷ []) 1 ≡ down_since 5
link-noted = refl

-- to a node that is not noted none was ever made
link_not-noted : link_of (down_since 4 ∷ []) 1 ≡ down_since 0
link_not-noted = refl

next-node : next_of 3 1 ≡ 2
next-node = refl

next-first : next_of 3 2 ≡ 0
next-first = refl

-- ---- rounds

-- the machine from node 2, with value 6
abbrev six : Option MachineSight
six = Some (record { port = 2; value = 6 })

moved-on : has_moved six (Some (record { port = 2; value = 0 })) ≡ true
moved-on = refl

moved_not-same : has_moved six six ≡ false
moved_not-same = refl

-- another machine has another value, and did not move
moved_not-other : has_moved six (Some (record { port = 3; value = 0 })) ≡ false
moved_not-other = refl

moved_not-first : has_moved None six ≡ false
moved_not-first = refl

-- it is seen with the values 6, 6 and 0: the token came round once
seen-once : machine_seen (Some (record { port = 2; value = 0 })) (machine_seen six (machine_seen six no_rounds))
    ≡ record { count = 1; last = Some (record { port = 2; value = 0 }) }
seen-once = refl

-- then from another neighbour, and from that one with another value: once more
seen-other : machine_seen (Some (record { port = 3; value = 1 }))
    (machine_seen (Some (record { port = 3; value = 0 })) (record { count = 1; last = six }))
    ≡ record { count = 2; last = Some (record { port = 3; value = 1 }) }
seen-other = refl

seen-nothing : machine_seen None (record { count = 1; last = six }) ≡ record { count = 1; last = None }
seen-nothing = refl

-- nothing is kept at the start, in whichever half minute the node starts
none-first : none_kept 0 ≡ record { half = 0; present = 0; before = 0; earlier = 0 }
none-first = refl

none-later : (none_kept 60000000).half ≡ 2
none-later = refl
