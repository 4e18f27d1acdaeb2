-- Ages: how many moves lead a head from the value that it had at some moment to the value that an
-- item holds. Items are copied from left to right, so if each item of a ring is a copy of what
-- the head held since that moment, and the head has moved fewer than q times since, ages never rise
-- along the ring.
use Rattle.std.specs.Prelude.{ℕ, ◌+◌, ◌-◌, ◌%◌, ◌≤◌, List, [], ◌∷◌}
use Rattle.k_state.specs.Ring.{head_of, tail_of}

-- the age of the value x since the head was at `start`: how many moves lead from `start` to x,
-- fewer than the modulus
abbrev pub age : ℕ → ℕ → ℕ → ℕ
age q start x = (q - start + x) % q

-- the first age is not above `newest`, and none is above the one before it
abbrev pub AgesFall : ℕ → ℕ → ℕ → List ℕ → Type 0
AgesFall q start newest [] = Unit {0}
AgesFall q start newest (x ∷ xs) = (age q start x ≤ newest) × AgesFall q start (age q start x) xs

-- along the ring, from the head on, ages since the head was at `start` never rise
abbrev pub HasFallingAges : ℕ → ℕ → List ℕ → Type 0
HasFallingAges q start ring = AgesFall q start (age q start (head_of ring)) (tail_of ring)
