-- Small examples of each definition, and ones that fail.
use Rattle.std.proofs.Common.{◌≡◌, ℕ, true, false, List, [], ◌∷◌, ◌++◌, map, Some, None, refl, codes, replicate}
use Rattle.std.specs.List.{range_with_len}
use Rattle.lock_desk.specs.declared.fault.AskFault.TheVariants.{Full, Twice}
use Rattle.lock_desk.specs.declared.act.DeskAct.TheVariants.{Granted, Lost}
use Rattle.lock_desk.specs.declared.client_line.ClientLine.TheVariants.{Lock, Unlock, Status, Unknown}
use Rattle.lock_desk.specs.Desk.{DeskState, no_desk, desk_fits, ask_fault, asked, is_stranger, after_leave, desk_ticked, loan_fits}
use Rattle.lock_desk.specs.Act.{desk_act}
use Rattle.lock_desk.specs.Laws.{Ticks, begins_loan}
use Rattle.byte_lines.specs.Lines.{half_line}
use Rattle.lock_desk.specs.ClientText.{client_line, client_lines}

-- tickets wait, and nobody borrows
queue : List ℕ → DeskState
queue tickets = record { waiting = tickets; lent = None; left = 0; served = false }

-- ticket 7 borrows with this much left, and others wait
loan : ℕ → List ℕ → DeskState
loan left tickets = record { waiting = tickets; lent = Some 7; left = left; served = false }

-- in range: nobody; 64 who wait; a loan with all of its lease left
fits-nobody : desk_fits 0 no_desk ≡ true
fits-nobody = refl

fits-64 : desk_fits 0 (queue (range_with_len 0 64)) ≡ true
unfolding queue
fits-64 = refl

fits-loan : desk_fits 3 (loan 3 (8 ∷ [])) ≡ true
unfolding loan
fits-loan = refl

-- out of range: 65 who wait; a ticket that waits twice; a borrower that waits; more left than the
-- lease; something left of no loan; a number that is no ticket
fits_not-65 : desk_fits 0 (queue (range_with_len 0 65)) ≡ false
unfolding queue
fits_not-65 = refl

fits_not-twice : desk_fits 0 (queue (1 ∷ 2 ∷ 1 ∷ [])) ≡ false
unfolding queue
fits_not-twice = refl

fits_not-borrower : desk_fits 3 (loan 3 (8 ∷ 7 ∷ [])) ≡ false
unfolding loan
fits_not-borrower = refl

fits_not-left : desk_fits 3 (loan 4 []) ≡ false
unfolding loan
fits_not-left = refl

fits_not-rest : desk_fits 3 (record no_desk { left = 1 }) ≡ false
fits_not-rest = refl

fits_not-number : desk_fits 3 (queue (65536 ∷ [])) ≡ false
unfolding queue
fits_not-number = refl

-- the 65th is Full, also with a ticket that waits; a ticket that waits or borrows asks Twice
asks-full : ask_fault 0 (queue (range_with_len 0 64)) ≡ Some Full
unfolding queue
asks-full = refl

asks-waiting : ask_fault 2 (queue (1 ∷ 2 ∷ [])) ≡ Some Twice
unfolding queue
asks-waiting = refl

asks-borrowing : ask_fault 7 (loan 0 []) ≡ Some Twice
unfolding loan
asks-borrowing = refl

asks-last : asked 3 (queue (1 ∷ 2 ∷ [])) ≡ queue (1 ∷ 2 ∷ 3 ∷ [])
unfolding queue
asks-last = refl

-- a waiter leaves the list, a borrower ends its loan, a stranger is refused
leaves-waiter : after_leave 2 (loan 0 (1 ∷ 2 ∷ 3 ∷ [])) ≡ loan 0 (1 ∷ 3 ∷ [])
unfolding loan
leaves-waiter = refl

leaves-borrower : after_leave 7 (loan 2 (1 ∷ [])) ≡ record (queue (1 ∷ [])) { served = true }
unfolding loan queue
leaves-borrower = refl

leaves-stranger : is_stranger 4 (loan 0 (1 ∷ [])) ≡ true
unfolding loan
leaves-stranger = refl

-- a lease of one tick: lent in the first tick, kept in the second, ended in the third
lease-one : desk_ticked 1 true (queue (7 ∷ [])) ≡ loan 1 []
unfolding queue loan
lease-one = refl

lease-two : desk_ticked 1 true (loan 1 []) ≡ loan 0 []
unfolding loan
lease-two = refl

lease-three : desk_ticked 1 true (loan 0 []) ≡ no_desk
unfolding loan
lease-three = refl

-- without a lease a loan stays while there is privilege, and ends without
endless : desk_ticked 0 true (loan 0 (8 ∷ [])) ≡ loan 0 (8 ∷ [])
unfolding loan
endless = refl

ends : desk_ticked 0 false (loan 0 (8 ∷ [])) ≡ queue (8 ∷ [])
unfolding loan queue
ends = refl

-- a desk that has served lends to nobody in its next tick, though it is privileged and somebody
-- waits; then it may
waits_once : desk_ticked 0 true (record (queue (7 ∷ [])) { served = true }) ≡ queue (7 ∷ [])
unfolding queue
waits_once = refl

granted : desk_act (queue (7 ∷ [])) (desk_ticked 0 true (queue (7 ∷ []))) ≡ Granted 7
unfolding queue
granted = refl

lost : desk_act (loan 0 []) (desk_ticked 0 false (loan 0 [])) ≡ Lost 7
unfolding loan
lost = refl

-- a desk that neither lends nor has served does begin a loan, so the law of one loan a stay needs
-- its premise
begins : begins_loan 0 (Ticks true) (queue (7 ∷ [])) ≡ true
unfolding queue
begins = refl

-- a loan that fits, one whose ticket waits, and what is left of no loan
writes : loan_fits 5 (queue (1 ∷ [])) (Some 6) 5 ≡ true
unfolding queue
writes = refl

writes_not-waiting : loan_fits 5 (queue (1 ∷ [])) (Some 1) 5 ≡ false
unfolding queue
writes_not-waiting = refl

writes_not-rest : loan_fits 5 (queue (1 ∷ [])) None 1 ≡ false
unfolding queue
writes_not-rest = refl

-- the three words, and what is none of them
words : map client_line (codes "lock" ∷ codes "unlock" ∷ codes "status" ∷ []) ≡ Lock ∷ Unlock ∷ Status ∷ []
words = refl

no-words : map client_line (codes "Lock" ∷ codes "lock " ∷ codes "loc" ∷ [] ∷ []) ≡ replicate 4 Unknown
no-words = refl

-- two whole lines and a half one; a line of 17 bytes is one unknown line
lines-two : client_lines (codes "lock" ++ 10 ∷ 10 ∷ codes "stat") ≡ Lock ∷ Unknown ∷ []
lines-two = refl

lines-half : half_line (codes "lock" ++ 10 ∷ 10 ∷ codes "stat") ≡ codes "stat"
lines-half = refl

lines-long : client_lines (replicate 17 120 ++ 10 ∷ codes "lock" ++ 10 ∷ []) ≡ Unknown ∷ Lock ∷ []
lines-long = refl
