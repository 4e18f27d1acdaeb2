-- Who is a stranger once a ticket has left, and once the node has ticked.
use Rattle.std.proofs.Common.{slice_index, ◌≡◌, ◌&&◌, ◌||◌, ◌==◌, ℕ, ◌<◌, ◌≤◌, ◌-◌, Bool, true, false, not, List, ◌∷◌, length, take, Some, refl, arith, zero, suc, []}
use Rattle.std.proofs.lemmas.Grind.{common_steps}
use Rattle.std.proofs.lemmas.Bool.Decides.{nat_tests}
use Rattle.lock_desk.specs.Desk.{DeskState, is_in, is_ticket, waits, is_stranger, after_leave, without, desk_fits, desk_ticked}

-- a list without a ticket does not have it
pub not-in-without : (t : ℕ) (xs : List ℕ) → is_in (without t xs) t ≡ false
not-in-without t [] = refl
not-in-without t (x ∷ xs) = grind (arith, common_steps, nat_tests, not-in-without t xs)

-- nor anything that the list did not have
pub not-more-without : (t u : ℕ) (xs : List ℕ) → is_in xs u ≡ false → is_in (without t xs) u ≡ false
not-more-without t u [] n = refl
not-more-without t u (x ∷ xs) n = grind (arith, common_steps, nat_tests, not-more-without t u xs)

-- a ticket that left is a stranger
pub gone : (lease t : ℕ) (d : DeskState) → desk_fits lease d ≡ true → is_stranger t (after_leave t d) ≡ true
gone lease t d fits = grind (arith, common_steps, nat_tests, not-in-without t d.waiting)

-- and no stranger comes by it
pub strangers-stay : (t u : ℕ) (d : DeskState) → is_stranger u d ≡ true → is_stranger u (after_leave t d) ≡ true
strangers-stay t u d s = grind (arith, common_steps, nat_tests, not-more-without t u d.waiting)

-- nor by a tick
pub strangers-tick : (lease : ℕ) (privileged : Bool) (u : ℕ) (d : DeskState) → is_stranger u d ≡ true → is_stranger u (desk_ticked lease privileged d) ≡ true
strangers-tick lease privileged u d s = grind (arith, common_steps, nat_tests)

-- so a ticket that is known after a tick was known before it
pub known-tick : (lease : ℕ) (privileged : Bool) (u : ℕ) (d : DeskState) → is_stranger u (desk_ticked lease privileged d) ≡ false → is_stranger u d ≡ false
known-tick lease privileged u d k = grind (arith, common_steps, strangers-tick lease privileged u d, k)

-- a list without a ticket is no longer
length-without : (t : ℕ) (xs : List ℕ) → length (without t xs) ≤ length xs
length-without t [] = omega arith
length-without t (x ∷ xs) = grind (arith, common_steps, nat_tests, length-without t xs)

-- a list without one of its tickets is shorter
pub shorter-without : (t : ℕ) (xs : List ℕ) → is_in xs t ≡ true → length (without t xs) < length xs
shorter-without t [] n = grind (arith, n)
shorter-without t (x ∷ xs) n = grind (arith, common_steps, nat_tests, shorter-without t xs, length-without t xs)

-- if the first tickets are others, they stay the first
take-without : (t k : ℕ) (xs : List ℕ) → is_in (take k xs) t ≡ false → take k (without t xs) ≡ take k xs
take-without t k [] n = grind (arith, common_steps)
take-without t zero (x ∷ xs) n = grind (arith, common_steps)
take-without t (suc k) (x ∷ xs) n = grind (arith, common_steps, nat_tests, take-without t k xs)

-- the ticket at a place is one of the list
pub at-place : (xs : List ℕ) (k : ℕ) → k < length xs → is_in xs (slice_index xs k) ≡ true
at-place [] k l = grind (arith, l)
at-place (x ∷ xs) zero l = grind (arith, common_steps, nat_tests)
at-place (x ∷ xs) (suc k) l = grind (arith, common_steps, nat_tests, at-place xs k)

-- the tickets before a place, and the one there
in-further : (xs : List ℕ) (k u : ℕ) → k < length xs → is_in (take (suc k) xs) u ≡ (is_in (take k xs) u || (slice_index xs k == u))
in-further [] k u l = grind (arith, l)
in-further (x ∷ xs) zero u l = grind (arith, common_steps, nat_tests)
in-further (x ∷ xs) (suc k) u l = grind (arith, common_steps, nat_tests, in-further xs k u)

-- a list from which one of its tickets goes has fewer from a place on
pub fewer-from : (t k : ℕ) (d : DeskState) → waits d t ≡ true → k < length d.waiting → length (after_leave t d).waiting - k < length d.waiting - k
fewer-from t k d w l = grind (arith, common_steps, shorter-without t d.waiting)

module _ (connected : ℕ → Bool) (t k : ℕ) (d : DeskState) (absent : connected t ≡ false)
    (looked : (u : ℕ) → is_in (take k d.waiting) u ≡ true → connected u ≡ true) where
  new-there : is_in (take k d.waiting) t ≡ false
  new-there = grind (arith, looked t, absent)

  -- of the tickets that were looked at none leaves with a ticket that is not connected
  pub looked-stay : waits d t ≡ true → (u : ℕ) → is_in (take k (after_leave t d).waiting) u ≡ true → connected u ≡ true
  looked-stay w u i = looked u (grind (arith, common_steps, take-without t k d.waiting, new-there, w, i))

-- and the borrower stays
pub lent-stays : (t : ℕ) (d : DeskState) → waits d t ≡ true → (after_leave t d).lent ≡ d.lent
lent-stays t d w = grind (arith, common_steps)

-- a borrower that leaves is none any more
pub lent-goes : (lease t : ℕ) (d : DeskState) → desk_fits lease d ≡ true → d.lent ≡ Some t → (u : ℕ) → is_ticket (after_leave t d).lent u ≡ false
lent-goes lease t d fits e u = grind (arith, common_steps, nat_tests)

-- once a client is closed and its ticket has left, each known ticket is a connected client's, as before
pub dismissed : (old new : ℕ → Bool) (lease t : ℕ) (d : DeskState) → desk_fits lease d ≡ true
    → ((u : ℕ) → new u ≡ (old u && not (u == t))) → ((u : ℕ) → is_stranger u d ≡ false → old u ≡ true)
    → (u : ℕ) → is_stranger u (after_leave t d) ≡ false → new u ≡ true
dismissed old new lease t d fits closed were u known = grind (arith, common_steps, nat_tests, gone lease t d fits, strangers-stay t u d, closed u, were u, known)
