-- The order in which the links are noted.
use Rattle.std.specs.Prelude.{ℕ, ◌+◌, nat_lt, if◌then◌else◌}

-- after the last node of the network comes the first
abbrev pub next_of : ℕ → ℕ → ℕ
next_of nodes id = if nat_lt (id + 1) nodes then id + 1 else 0
