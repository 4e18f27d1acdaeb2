-- A desk in range stays in range if a ticket asks and is not refused, if one leaves, and if a loan
-- that fits is written.
use Rattle.std.proofs.Common.{Fits, w16, suc, get_or, ◌<◌, ◌≡◌, ℕ, ◌≤◌, Bool, true, false, List, [], ◌∷◌, ◌++◌, length, Option, None, refl, arith}
use Rattle.std.specs.List.{list_all}
use Rattle.std.proofs.lemmas.Grind.{common_steps}
use Rattle.std.proofs.lemmas.Bool.Decides.{nat_tests}
use Rattle.lock_desk.specs.Desk.{DeskState, is_in, are_distinct, is_number, desk_fits, ask_fault, asked, without, after_leave, loan_fits, with_loan}

-- a ticket that is not in a list makes it no list with doubles
are_distinct-more : (xs : List ℕ) (t : ℕ) → are_distinct xs ≡ true → is_in xs t ≡ false → are_distinct (xs ++ t ∷ []) ≡ true
are_distinct-more [] t d n = refl
are_distinct-more (x ∷ xs) t d n = grind (arith, common_steps, nat_tests, are_distinct-more xs t)

-- a list without a ticket has no other tickets
is_in-without : (t x : ℕ) (xs : List ℕ) → is_in xs x ≡ false → is_in (without t xs) x ≡ false
is_in-without t x [] n = refl
is_in-without t x (y ∷ ys) n = grind (arith, common_steps, nat_tests, is_in-without t x ys)

are_distinct-without : (t : ℕ) (xs : List ℕ) → are_distinct xs ≡ true → are_distinct (without t xs) ≡ true
are_distinct-without t [] d = refl
are_distinct-without t (x ∷ xs) d = grind (arith, common_steps, nat_tests, is_in-without t x xs, are_distinct-without t xs)

list_all-without : (p : ℕ → Bool) (t : ℕ) (xs : List ℕ) → list_all p xs ≡ true → list_all p (without t xs) ≡ true
list_all-without p t [] a = refl
list_all-without p t (x ∷ xs) a = grind (arith, common_steps, nat_tests, list_all-without p t xs)

length-without : (t : ℕ) (xs : List ℕ) → length (without t xs) ≤ length xs
length-without t [] = omega arith
length-without t (x ∷ xs) = grind (arith, common_steps, nat_tests, length-without t xs)

-- a desk stays in range when a ticket asks and is not refused
pub fits-asked : (lease t : ℕ) (d : DeskState) → is_number t ≡ true → desk_fits lease d ≡ true → ask_fault t d ≡ None → desk_fits lease (asked t d) ≡ true
fits-asked lease t d n f a = grind (arith, common_steps, nat_tests, are_distinct-more d.waiting t)

-- a desk stays in range when a waiter leaves
pub fits-without : (lease t : ℕ) (d : DeskState) → desk_fits lease d ≡ true → desk_fits lease (record d { waiting = without t d.waiting }) ≡ true
fits-without lease t d f = grind (arith, common_steps, nat_tests, are_distinct-without t d.waiting, list_all-without is_number t d.waiting, length-without t d.waiting, is_in-without t)

-- and when a borrower leaves, or nobody
pub fits-left : (lease t : ℕ) (d : DeskState) → desk_fits lease d ≡ true → desk_fits lease (after_leave t d) ≡ true
fits-left lease t d f = grind (arith, common_steps, nat_tests, fits-without lease t d)

-- and when a loan that fits is written
pub fits-loan : (lease left : ℕ) (lent : Option ℕ) (served : Bool) (d : DeskState) → desk_fits lease d ≡ true → loan_fits lease d lent left ≡ true
    → desk_fits lease (with_loan d lent left served) ≡ true
fits-loan lease left lent served d f l = grind (arith, common_steps, nat_tests)

-- tickets of their type are numbers below 65536
pub all-numbers : (tickets : List ℕ) → ((i : ℕ) → Fits w16 (get_or tickets i 0)) → list_all is_number tickets ≡ true
all-numbers [] fit = refl
all-numbers (t ∷ ts) fit =
    let fits = fit 0 in
    let first : t < 65536 = omega arith in
    let others = all-numbers ts (λ i. fit (suc i)) in
    grind (arith, nat_tests)
