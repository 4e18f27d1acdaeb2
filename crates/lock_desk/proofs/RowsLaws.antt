-- Small examples of what the laws of a desk speak of, and ones that fail.
use Rattle.std.proofs.Common.{◌≡◌, ℕ, true, false, List, [], ◌∷◌, None, Some, refl, arith}
use Rattle.std.specs.List.{range_with_len}
use Rattle.lock_desk.specs.Desk.{DeskState, no_desk, is_in, are_distinct, is_number, without, loan_ends, lends_next}
use Rattle.lock_desk.specs.Act.{act_between}
use Rattle.lock_desk.specs.declared.act.DeskAct.TheVariants.{Quiet, Granted, Lost}
use Rattle.lock_desk.specs.Queue.{queue_fits, with_queue}
use Rattle.lock_desk.specs.Laws.{Asks, Leaves, Ticks, after_call, begins_loan, is_full_tick, LendsNoMore, IsTurn}

-- tickets wait, and nobody borrows
abbrev queue : List ℕ → DeskState
queue tickets = record { waiting = tickets; lent = None; left = 0; served = false }

-- ticket 7 borrows with this much left, and others wait
abbrev loan : ℕ → List ℕ → DeskState
loan left tickets = record { waiting = tickets; lent = Some 7; left = left; served = false }

-- a tick is full if nobody borrows after it; no other call is
full-tick : is_full_tick 0 (Ticks false) (loan 0 []) ≡ true
full-tick = refl

full_not-lent : is_full_tick 0 (Ticks true) (loan 0 []) ≡ false
full_not-lent = refl

full_not-leave : is_full_tick 0 (Leaves 7) (loan 0 []) ≡ false
full_not-leave = refl

-- the loan ends, the ticket asks again, and gets nothing in the tick that follows
lends-no-more : LendsNoMore 0 (loan 0 []) (Leaves 7 ∷ Asks 7 ∷ Ticks true ∷ [])
lends-no-more = (refl, λ full. (refl, λ next. (refl, λ last. tt)))

-- after the full tick a loan may begin
lends-after : LendsNoMore 0 (loan 0 (8 ∷ [])) (Ticks false ∷ Ticks true ∷ [])
lends-after = (refl, λ full. absurd (grind (arith, full)))

lends_not-at-once : ¬ LendsNoMore 0 (queue (7 ∷ [])) (Ticks true ∷ [])
lends_not-at-once none = let e = none.0 in grind (arith, e)

-- it begins in the second call, and no full tick comes in front of it
lends_not-next : ¬ LendsNoMore 0 (queue []) (Asks 7 ∷ Ticks true ∷ [])
lends_not-next none = let e = (none.1 refl).0 in grind (arith, e)

begins_not-again : begins_loan 0 (Ticks true) (loan 0 (8 ∷ [])) ≡ false
begins_not-again = refl

-- a refused call changes nothing
after-ask : after_call 0 (Asks 8) (loan 0 []) ≡ loan 0 (8 ∷ [])
after-ask = refl

after_not-twice : after_call 0 (Asks 7) (loan 0 []) ≡ loan 0 []
after_not-twice = refl

-- the first of those who wait is served, and in other ticks all wait on
turn-granted : IsTurn (1 ∷ 2 ∷ []) (2 ∷ []) (Granted 1)
turn-granted = refl

turn-lost : IsTurn (1 ∷ []) (1 ∷ []) (Lost 3)
turn-lost = refl

turn_not-second : ¬ IsTurn (1 ∷ 2 ∷ []) (1 ∷ []) (Granted 2)
turn_not-second turn = grind (arith, turn)

turn_not-gone : ¬ IsTurn (1 ∷ []) [] Quiet
turn_not-gone turn = grind (arith, turn)

-- a tick that changes the borrower would be none of both: the laws show that no tick does
act-none : act_between (Some 1) (Some 1) ≡ Quiet
act-none = refl

act-lost : act_between (Some 1) None ≡ Lost 1
act-lost = refl

act_not-granted : ¬ (act_between None None ≡ Granted 1)
act_not-granted e = grind (arith, e)

-- a queue that may be written; 65 tickets, one twice, and one that borrows may not
queue-fits : queue_fits (1 ∷ 2 ∷ []) (Some 3) ≡ true
queue-fits = refl

queue_fits_not-65 : queue_fits (range_with_len 0 65) None ≡ false
queue_fits_not-65 = refl

queue_fits_not-twice : queue_fits (1 ∷ 1 ∷ []) None ≡ false
queue_fits_not-twice = refl

queue_fits_not-borrower : queue_fits (1 ∷ 3 ∷ []) (Some 3) ≡ false
queue_fits_not-borrower = refl

queue-written : with_queue (loan 2 (1 ∷ [])) (5 ∷ 4 ∷ []) ≡ loan 2 (5 ∷ 4 ∷ [])
queue-written = refl

-- ---- parts of the rule

among : is_in (4 ∷ 2 ∷ []) 2 ≡ true
among = refl

among_not-other : is_in (4 ∷ 2 ∷ []) 3 ≡ false
among_not-other = refl

distinct_not-apart : are_distinct (1 ∷ 2 ∷ 3 ∷ 1 ∷ []) ≡ false
distinct_not-apart = refl

number-last : is_number 65535 ≡ true
number-last = refl

number_not-next : is_number 65536 ≡ false
number_not-next = refl

without-one : without 2 (1 ∷ 2 ∷ 3 ∷ []) ≡ 1 ∷ 3 ∷ []
without-one = refl

without_not-there : without 4 (1 ∷ 2 ∷ []) ≡ 1 ∷ 2 ∷ []
without_not-there = refl

-- with a lease a loan ends when nothing is left of it; without one only with the privilege
ends-with-lease : loan_ends true 3 (loan 0 []) ≡ true
ends-with-lease = refl

ends_not-without-lease : loan_ends true 0 (loan 0 []) ≡ false
ends_not-without-lease = refl

ends-without-privilege : loan_ends false 3 (loan 3 []) ≡ true
ends-without-privilege = refl

ends_not-nobody : loan_ends false 3 no_desk ≡ false
ends_not-nobody = refl

next-lent : lends_next true (queue (1 ∷ [])) ≡ true
next-lent = refl

next_not-served : lends_next true (record (queue (1 ∷ [])) { served = true }) ≡ false
next_not-served = refl

next_not-unprivileged : lends_next false (queue (1 ∷ [])) ≡ false
next_not-unprivileged = refl

next_not-empty : lends_next true (queue []) ≡ false
next_not-empty = refl
