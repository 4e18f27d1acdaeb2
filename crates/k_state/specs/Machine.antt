-- One machine with values below a modulus, which sees the value before it.
use Rattle.std.specs.Prelude.{ℕ, ◌+◌, ◌%◌, ◌==◌, Bool, true, false, not}

-- the special machine moves on to the next value
abbrev pub root_moved : ℕ → ℕ → ℕ
root_moved x modulus = (x + 1) % modulus

-- the special machine may move if it sees its own value, every other if it sees a different one
abbrev pub is_privileged : Bool → ℕ → ℕ → Bool
is_privileged true x before = x == before
is_privileged false x before = not (x == before)
