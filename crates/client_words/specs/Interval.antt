-- The time between two looks of a watch.
use Rattle.std.specs.Prelude.{ℕ, ◌&&◌, nat_le, if◌then◌else◌, List, Option, None, Some}
use Rattle.std.specs.Borrow.{Bor}
use Rattle.recovery_times.specs.Reading.{micros_of}

-- from a tenth of a second to an hour, in milliseconds
abbrev pub in_range : Option ℕ → Option ℕ
in_range None = None
in_range (Some millis) = if nat_le 100 millis && nat_le millis 3600000 then Some millis else None

-- the time of `--every` in milliseconds; half a second by default
abbrev pub interval : Option (Bor (List ℕ)) → Option ℕ
interval None = Some 500
interval (Some word) = in_range (micros_of word.now)
