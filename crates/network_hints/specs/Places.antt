-- The line and the column of a place in a text.
use Rattle.std.specs.Prelude.{ℕ, ◌+◌, ◌==◌, nat_lt, ◌&&◌, if◌then◌else◌, List, min}
use Rattle.std.specs.List.{fold}

-- a number plus one, up to the greatest number
abbrev pub one_more : ℕ → ℕ
one_more n = min (n + 1) 18446744073709551615

-- the place after one more byte: a new line after a newline, and the same column after a byte that continues a
-- UTF-8 character
abbrev pub step : ℕ × ℕ → ℕ → ℕ × ℕ
step place byte =
    if byte == 10 then (one_more place.0, 1)
    else if (nat_lt 127 byte && nat_lt byte 192) then place
    else (place.0, one_more place.1)

-- the place after these bytes
abbrev pub place_after : List ℕ → ℕ × ℕ
place_after before = fold step (1, 1) before
