-- How a word spells a time in milliseconds: as `8`, `2.2` or `0.125`.
use Rattle.std.specs.Prelude.{ℕ, suc, ◌+◌, ◌-◌, ◌*◌, ◌^◌, ◌&&◌, ◌==◌, nat_le, if◌then◌else◌, List, [], ◌∷◌, length, take, Option, Some, None}
use Rattle.std.specs.Borrow.{Bor}
use Rattle.std.specs.Option.{option_and_then, option_map}
use Rattle.std.specs.Str.Parse.{digits_value}
use Rattle.line_words.specs.Numbers.{are_digits, digits_up_to, has_leading_zero}

-- how many bytes stand in front of the first point
abbrev pub point_at : List ℕ → ℕ
point_at [] = 0
point_at (byte ∷ bytes) = if byte == 46 then 0 else suc (point_at bytes)

-- the whole milliseconds, at most as many as an hour has: no zero stands in front of other digits
abbrev pub whole_of : List ℕ → Option ℕ
whole_of digits = if has_leading_zero digits then None else digits_up_to 3600000 digits

-- the microseconds that one to three digits after the point spell
abbrev pub thousandths_of : List ℕ → Option ℕ
thousandths_of digits =
    if are_digits digits && nat_le (length digits) 3
    then Some (digits_value 10 digits * 10 ^ (3 - length digits)) else None

-- what stands after the first point, if there is one
abbrev pub after_point : List ℕ → Option (List ℕ)
after_point [] = None
after_point (byte ∷ bytes) = if byte == 46 then Some bytes else after_point bytes

-- its microseconds: 0 if there is no point
abbrev pub part_of : Option (List ℕ) → Option ℕ
part_of None = Some 0
part_of (Some digits) = thousandths_of digits

-- a time that is at most an hour
abbrev pub within_an_hour : ℕ → Option ℕ
within_an_hour micros = if nat_le micros 3600000000 then Some micros else None

-- the microseconds of a time in milliseconds
abbrev pub micros_of : List ℕ → Option ℕ
micros_of word =
    option_and_then (λ whole.
    option_and_then (λ part. within_an_hour (1000 * whole + part)) (part_of (after_point word)))
    (whole_of (take (point_at word) word))

-- the same of a slice
abbrev pub thousandths_in : Option (Bor (List ℕ)) → Option ℕ
thousandths_in digits = part_of (option_map (λ d. d.now) digits)
