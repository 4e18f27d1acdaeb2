-- How many clients were closed as soon as they had come.
use Rattle.std.specs.Prelude.{ℕ, ◌+◌, nat_lt, if◌then◌else◌}

-- a client that comes when 128 are connected is closed at once. The count stays at its greatest number
abbrev pub closed_after : ℕ → ℕ → ℕ
closed_after connected closed =
    if nat_lt connected 128 then closed
    else if nat_lt closed 18446744073709551615 then closed + 1
    else 18446744073709551615
