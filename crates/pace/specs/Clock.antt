-- Times that are over.
use Rattle.std.specs.Prelude.{ℕ, ◌-◌, Bool, ◌||◌, nat_lt, nat_le, if◌then◌else◌}

-- a time of `span` has passed since that moment; a moment that lies ahead counts as long ago
abbrev pub is_over : ℕ → ℕ → ℕ → Bool
is_over since span now = nat_lt now since || nat_le span (now - since)

-- how long it is until then
abbrev pub time_left : ℕ → ℕ → ℕ → ℕ
time_left since span now = if is_over since span now then 0 else span - (now - since)
