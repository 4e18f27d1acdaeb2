-- Small examples of the parts of a desk's tick and of its ranges, and ones that fail.
use Rattle.std.proofs.Common.{◌≡◌, ℕ, true, false, [], ◌∷◌, Option, Some, None, map, refl}
use Rattle.lock_desk.specs.Desk.{DeskState, borrows, cleared, counted_down, ended, is_ticket, left_fits, lent_next, lent_to_first, loan_begun, loan_looked_at, may_be_lent, with_loan}

-- tickets 8 and 9 wait; 7 borrows with this much left, or nobody does
abbrev desk : Option ℕ → ℕ → DeskState
desk lent left = record { waiting = 8 ∷ 9 ∷ []; lent = lent; left = left; served = false }

abbrev served : DeskState
served = record { waiting = 8 ∷ 9 ∷ []; lent = None; left = 0; served = true }

-- ---- ranges

ticket : map (λ lent. is_ticket lent 7) (Some 7 ∷ Some 8 ∷ None ∷ []) ≡ true ∷ false ∷ false ∷ []
ticket = refl

borrower : borrows (desk (Some 7) 2) 7 ≡ true
borrower = refl

borrower_not-waiter : borrows (desk (Some 7) 2) 8 ≡ false
borrower_not-waiter = refl

-- not to one that waits, nor to a number that is no ticket
lendable : map (may_be_lent (8 ∷ 9 ∷ [])) (None ∷ Some 7 ∷ Some 9 ∷ Some 65536 ∷ []) ≡ true ∷ true ∷ false ∷ false ∷ []
lendable = refl

left : (left_fits 3 (Some 7) 3 ≡ true) × (left_fits 3 None 0 ≡ true)
left = (refl, refl)

-- more than the lease, and something of no loan
left_not-more : (left_fits 3 (Some 7) 4 ≡ false) × (left_fits 3 None 1 ≡ false)
left_not-more = (refl, refl)

writes-loan : with_loan (desk None 0) (Some 7) 2 true ≡ record { waiting = 8 ∷ 9 ∷ []; lent = Some 7; left = 2; served = true }
writes-loan = refl

writes_not-waiting : (with_loan (desk (Some 7) 2) None 0 false).waiting ≡ 8 ∷ 9 ∷ []
writes_not-waiting = refl

-- ---- a tick, part by part

ends : ended (desk (Some 7) 2) ≡ served
ends = refl

counts : counted_down 3 (desk (Some 7) 2) ≡ desk (Some 7) 1
counts = refl

-- without a lease, or without a loan, nothing is counted
counts_not-on : (counted_down 0 (desk (Some 7) 2) ≡ desk (Some 7) 2) × (counted_down 3 (desk None 2) ≡ desk None 2)
counts_not-on = (refl, refl)

-- a loan ends without privilege, and with nothing left of its lease
looks-ends : (loan_looked_at false 3 (desk (Some 7) 2) ≡ served) × (loan_looked_at true 3 (desk (Some 7) 0) ≡ served)
looks-ends = (refl, refl)

looks_not-ends : (loan_looked_at true 3 (desk (Some 7) 2) ≡ desk (Some 7) 1) × (loan_looked_at true 0 (desk (Some 7) 0) ≡ desk (Some 7) 0)
looks_not-ends = (refl, refl)

-- the first that waits borrows, for the whole lease
lends-first : lent_to_first 3 (8 ∷ 9 ∷ []) (desk None 0) ≡ record { waiting = 9 ∷ []; lent = Some 8; left = 3; served = false }
lends-first = refl

lends_not-nobody : lent_to_first 3 [] (desk None 0) ≡ desk None 0
lends_not-nobody = refl

lends-next : lent_next 3 (desk None 0) ≡ record { waiting = 9 ∷ []; lent = Some 8; left = 3; served = false }
lends-next = refl

begins : loan_begun true 3 (desk None 0) ≡ record { waiting = 9 ∷ []; lent = Some 8; left = 3; served = false }
begins = refl

-- not without privilege, nor while somebody borrows, nor after a loan that ended since the last full tick
begins_not : (loan_begun false 3 (desk None 0) ≡ desk None 0) × (loan_begun true 3 (desk (Some 7) 2) ≡ desk (Some 7) 2) × (loan_begun true 3 served ≡ served)
begins_not = (refl, refl, refl)

clears : cleared served ≡ desk None 0
clears = refl

clears_not-lending : (cleared (record (desk (Some 7) 2) { served = true })).served ≡ true
clears_not-lending = refl
