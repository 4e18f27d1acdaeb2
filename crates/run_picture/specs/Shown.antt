-- When a line on a terminal shows how much of the events was read.
use Rattle.std.specs.Prelude.{ℕ, Bool, ◌&&◌, nat_le, nat_lt}

-- not in the first two seconds, which are 20 tenths, and at most once in each tenth of a second
abbrev pub is_due : (shown tenth : ℕ) → Bool
is_due shown tenth = nat_le 20 tenth && nat_lt shown tenth
