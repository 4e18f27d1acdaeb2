-- A lock desk: who waits for the lock at a node, to whom it is lent, and how each call changes
-- that.
use Rattle.std.specs.Prelude.{ℕ, ◌-◌, Bool, true, false, not, ◌&&◌, ◌||◌, ◌==◌, if◌then◌else◌, nat_lt, nat_le, List, [], ◌∷◌, ◌++◌, length, filter, Option, Some, None, is_some}
use Rattle.std.specs.List.{list_any, list_all}
use Rattle.lock_desk.specs.declared.fault.AskFault.{AskFault}
use Rattle.lock_desk.specs.declared.fault.AskFault.TheVariants.{Full, Twice}

-- what a desk knows: the tickets that wait, the next one first; the ticket that the lock is lent
-- to; how many more ticks that loan outlasts at most if there is a lease; and a mark that a loan
-- ended since the last full tick
pub record DeskState : Type 0 where
  pub waiting : List ℕ
  pub lent : Option ℕ
  pub left : ℕ
  pub served : Bool

-- a desk at which nobody ever asked
abbrev pub no_desk : DeskState
no_desk = record { waiting = []; lent = None; left = 0; served = false }

-- the ticket is one of the list
abbrev pub is_in : List ℕ → ℕ → Bool
is_in tickets t = list_any (λ w. w == t) tickets

-- no ticket appears twice in the list
abbrev pub are_distinct : List ℕ → Bool
are_distinct [] = true
are_distinct (t ∷ ts) = not (is_in ts t) && are_distinct ts

-- the ticket waits
abbrev pub waits : DeskState → ℕ → Bool
waits d t = is_in d.waiting t

-- the value is that ticket
abbrev pub is_ticket : Option ℕ → ℕ → Bool
is_ticket None t = false
is_ticket (Some lent) t = lent == t

-- the lock is lent to the ticket
abbrev pub borrows : DeskState → ℕ → Bool
borrows d t = is_ticket d.lent t

-- the lock is lent to somebody
abbrev pub lends : DeskState → Bool
lends d = is_some d.lent

-- a ticket is a number below 65536
abbrev pub is_number : ℕ → Bool
is_number t = nat_lt t 65536

-- the lock is lent to nobody, or to a ticket that does not wait
abbrev pub may_be_lent : List ℕ → Option ℕ → Bool
may_be_lent tickets None = true
may_be_lent tickets (Some t) = is_number t && not (is_in tickets t)

-- a loan has at most the lease left, and without a loan nothing is left
abbrev pub left_fits : ℕ → Option ℕ → ℕ → Bool
left_fits lease lent left = nat_le left lease && (is_some lent || left == 0)

-- a desk is in range if at most 64 distinct tickets wait, the borrower is none of them, and what
-- is left of its loan fits
abbrev pub desk_fits : ℕ → DeskState → Bool
desk_fits lease d =
    nat_le (length d.waiting) 64
    && list_all is_number d.waiting
    && are_distinct d.waiting
    && may_be_lent d.waiting d.lent
    && left_fits lease d.lent d.left

-- asking is refused as Full if 64 tickets wait, and otherwise as Twice if this ticket waits or
-- borrows
abbrev pub ask_fault : ℕ → DeskState → Option AskFault
ask_fault t d =
    if nat_le 64 (length d.waiting) then Some Full
    else if waits d t || borrows d t then Some Twice
    else None

-- a ticket that asked waits after all others
abbrev pub asked : ℕ → DeskState → DeskState
asked t d = record d { waiting = d.waiting ++ t ∷ [] }

-- a loan has ended: the desk has served, and lends to nobody
abbrev pub ended : DeskState → DeskState
ended d = record { waiting = d.waiting; lent = None; left = 0; served = true }

-- a stranger neither waits nor borrows
abbrev pub is_stranger : ℕ → DeskState → Bool
is_stranger t d = not (waits d t || borrows d t)

-- the list without the ticket
abbrev pub without : ℕ → List ℕ → List ℕ
without t tickets = filter (λ w. not (w == t)) tickets

-- a waiter that leaves is taken out of the list; a borrower that leaves ends its loan; a stranger
-- changes nothing
abbrev pub after_leave : ℕ → DeskState → DeskState
after_leave t d =
    if waits d t then record d { waiting = without t d.waiting }
    else if borrows d t then ended d
    else d

-- in a tick a loan ends if the node has no privilege, or if there is a lease and nothing of
-- it is left
abbrev pub loan_ends : Bool → ℕ → DeskState → Bool
loan_ends privileged lease d = lends d && (not privileged || (nat_lt 0 lease && d.left == 0))

-- a loan that goes on has one tick less left, if there is a lease
abbrev pub counted_down : ℕ → DeskState → DeskState
counted_down lease d = if lends d && nat_lt 0 lease then record d { left = d.left - 1 } else d

-- the first part of a tick: the loan ends or goes on
abbrev pub loan_looked_at : Bool → ℕ → DeskState → DeskState
loan_looked_at privileged lease d =
    if loan_ends privileged lease d then ended d else counted_down lease d

-- the lock is lent next if the node is privileged, lends to nobody, has not served, and somebody
-- waits
abbrev pub lends_next : Bool → DeskState → Bool
lends_next privileged d = privileged && not (lends d) && not d.served && nat_lt 0 (length d.waiting)

-- the first of those who wait borrows, for the whole lease
abbrev pub lent_to_first : ℕ → List ℕ → DeskState → DeskState
lent_to_first lease [] d = d
lent_to_first lease (t ∷ ts) d =
    record { waiting = ts; lent = Some t; left = lease; served = d.served }

abbrev pub lent_next : ℕ → DeskState → DeskState
lent_next lease d = lent_to_first lease d.waiting d

-- the second part of a tick: a loan may begin
abbrev pub loan_begun : Bool → ℕ → DeskState → DeskState
loan_begun privileged lease d = if lends_next privileged d then lent_next lease d else d

-- the last part of a tick: for a desk that lends to nobody, `served` is cleared
abbrev pub cleared : DeskState → DeskState
cleared d = if lends d then d else record d { served = false }

-- a whole tick
abbrev pub desk_ticked : ℕ → Bool → DeskState → DeskState
desk_ticked lease privileged d =
    cleared (loan_begun privileged lease (loan_looked_at privileged lease d))

-- a loan may be written at a desk if its ticket does not wait and what is left of it fits
abbrev pub loan_fits : ℕ → DeskState → Option ℕ → ℕ → Bool
loan_fits lease d lent left = may_be_lent d.waiting lent && left_fits lease lent left

-- the desk with another loan written
abbrev pub with_loan : DeskState → Option ℕ → ℕ → Bool → DeskState
with_loan d lent left served =
    record { waiting = d.waiting; lent = lent; left = left; served = served }
