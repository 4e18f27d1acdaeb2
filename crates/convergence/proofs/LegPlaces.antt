-- The legs of a tour by their places, from 0.
use Rattle.std.proofs.Common.{◌≡◌, ℕ, zero, suc, ◌<◌, ◌≤◌, inl, inr, List, [], ◌∷◌, length, refl, arith}
use Rattle.convergence.specs.Ring.{Leg}
use Rattle.convergence.specs.Legs.{IsFollowed, IsAmong, last_leg}

-- the leg at a place of p and its followers; beyond them, the last leg
abbrev pub leg_at : Leg → List Leg → ℕ → Leg
leg_at p ls zero = p
leg_at p [] (suc i) = p
leg_at p (l ∷ ls) (suc i) = leg_at l ls i

pub among-at : (p : Leg) (ls : List Leg) (i : ℕ) → i ≤ length ls → IsAmong (leg_at p ls i) (p ∷ ls)
among-at p ls zero h = inl refl
among-at p [] (suc i) h = inl refl
among-at p (l ∷ ls) (suc i) h = inr (among-at l ls i (omega (arith, h)))

pub among-later : (p : Leg) (ls : List Leg) (i : ℕ) → i < length ls → IsAmong (leg_at p ls (suc i)) ls
among-later p [] i h = absurd (omega (arith, h))
among-later p (l ∷ ls) i h = among-at l ls i (omega (arith, h))

pub followed-at : (p : Leg) (ls : List Leg) (i : ℕ) → IsFollowed p ls → i < length ls
    → ((leg_at p ls (suc i)).from ≡ (leg_at p ls i).here) × ((leg_at p ls (suc i)).here ≡ (leg_at p ls i).onward)
followed-at p [] i f h = absurd (omega (arith, h))
followed-at p (l ∷ ls) zero f h = f.0
followed-at p (l ∷ ls) (suc i) f h = followed-at l ls i f.1 (omega (arith, h))

pub last-at : (p : Leg) (ls : List Leg) → last_leg p ls ≡ leg_at p ls (length ls)
last-at p [] = refl
last-at p (l ∷ ls) = last-at l ls

-- the place of a leg of the list
pub place-of : (l p : Leg) (ls : List Leg) → IsAmong l (p ∷ ls) → (i : ℕ) × (i ≤ length ls) × (l ≡ leg_at p ls i)
place-of l p ls (inl e) = (0, omega arith, e)
place-of l p [] (inr a) = absurd a
place-of l p (k ∷ ks) (inr a) = let r = place-of l k ks a in (suc r.0, omega (arith, r.1), r.2)

pub place-after : (l p : Leg) (ls : List Leg) → IsAmong l ls → (i : ℕ) × (i < length ls) × (l ≡ leg_at p ls (suc i))
place-after l p [] a = absurd a
place-after l p (k ∷ ks) a = let r = place-of l k ks a in (r.0, omega (arith, r.1), r.2)
