-- Small examples of each definition, and ones that fail.
use Rattle.std.proofs.Common.{◌≡◌, true, false, None, Some, [], ◌∷◌, refl}
use Rattle.turn_watch.specs.declared.turns.TurnTimes.{TurnTimes}
use Rattle.turn_watch.specs.declared.loans.LoanTimes.{LoanTimes}
use Rattle.turn_watch.specs.declared.links.LinkTimes.{LinkTimes}
use Rattle.turn_watch.specs.Turns.{begun, longest_lately, one_more}
use Rattle.turn_watch.specs.Loans.{no_loans, desk_seen}
use Rattle.turn_watch.specs.Links.{down_since, link_seen, break_count}
use Rattle.turn_watch.specs.Laws.{after_turns, gaps, greatest}

-- turns end 2.0, 4.3 and 6.3 ms after the start: the gap of 2.3 ms is the longest, and late by a limit of 2.2
three : TurnTimes
three = after_turns 2200 (begun 0) (2000 ∷ 4300 ∷ 6300 ∷ [])

three-count : three.count ≡ 3
unfolding three
three-count = refl

three-longest : three.longest ≡ 2300
unfolding three
three-longest = refl

three-late : three.late ≡ 1
unfolding three
three-late = refl

three_not-late : (after_turns 2300 (begun 0) (2000 ∷ 4300 ∷ 6300 ∷ [])).late ≡ 0
three_not-late = refl

-- it is kept for a minute, and forgotten when the third half minute after it begins
three-lately : longest_lately 66300000 three.lately ≡ 2300
unfolding three
three-lately = refl

three-kept : longest_lately 89999999 three.lately ≡ 2300
unfolding three
three-kept = refl

three_not-kept : longest_lately 90000000 three.lately ≡ 0
unfolding three
three_not-kept = refl

-- a turn that ends in a later half minute moves on what was kept
four : TurnTimes
four = after_turns 2200 three (40000000 ∷ [])

four-lately : longest_lately 40000000 four.lately ≡ 39993700
unfolding four three
four-lately = refl

-- the gaps of these turns
three-gaps : gaps 0 (2000 ∷ 4300 ∷ 6300 ∷ []) ≡ 2000 ∷ 2300 ∷ 2000 ∷ []
three-gaps = refl

three-greatest : greatest (2000 ∷ 2300 ∷ 2000 ∷ []) ≡ 2300
three-greatest = refl

-- a count stays at the greatest number of 64 bits
count-last : one_more 18446744073709551615 ≡ 18446744073709551615
count-last = refl

count-next : one_more 18446744073709551614 ≡ 18446744073709551615
count-next = refl

-- a loan begins at 100 and ends at 350; another begins and ends at 400
lent : LoanTimes
lent = desk_seen 100 (record { has_granted = true; lends = true }) no_loans

over : LoanTimes
over = desk_seen 350 (record { has_granted = false; lends = false }) lent

lent-since : lent.since ≡ Some 100
unfolding lent
lent-since = refl

over-longest : over.longest ≡ 250
unfolding over lent
over-longest = refl

over-since : over.since ≡ None
unfolding over lent
over-since = refl

over-lately : longest_lately 60000350 over.lately ≡ 250
unfolding over lent
over-lately = refl

over-short : desk_seen 400 (record { has_granted = true; lends = false }) over
    ≡ record { count = 2; longest = 250; since = None; lately = record { half = 0; present = 250; before = 0; earlier = 0 } }
unfolding over lent
over-short = refl

-- a loan that follows another within one turn ends it
next-loan : desk_seen 500 (record { has_granted = true; lends = true }) lent
    ≡ record { count = 2; longest = 400; since = Some 500; lately = record { half = 0; present = 400; before = 0; earlier = 0 } }
unfolding lent
next-loan = refl

-- a loan that runs on is the same loan
same-loan : desk_seen 500 (record { has_granted = false; lends = true }) lent ≡ lent
unfolding lent
same-loan = refl

-- a link comes up at 10, is the same at 20, and at 30 stands by another connection: it broke once
up : LinkTimes
up = link_seen (record { is_up = true; made = 1 }) 10 (down_since 0)

up-since : up.since ≡ 10
unfolding up
up-since = refl

up-same : link_seen (record { is_up = true; made = 1 }) 20 up ≡ up
unfolding up
up-same = refl

up_not-same : (link_seen (record { is_up = true; made = 2 }) 30 up).since ≡ 30
unfolding up
up_not-same = refl

breaks-up : break_count (record { is_up = true; made = 2 }) ≡ 1
breaks-up = refl

breaks-down : break_count (record { is_up = false; made = 2 }) ≡ 2
breaks-down = refl
