-- Carriage returns, which end no line of a text of events.
use Rattle.std.specs.Prelude.{ℕ, Bool, false, ◌&&◌, nat_lt, if◌then◌else◌, is_some, List, Option, Some, None, Result, Ok, Err, take, codes}
use Rattle.memchr.specs.Find.{first_of, is_byte, places}

-- one of the bytes is a carriage return, 13
abbrev pub has_return : List ℕ → Bool
has_return bytes = is_some (first_of (places (is_byte 13) bytes))

-- a carriage return was among the bytes that a read put into its buffer
abbrev pub gave_return : {E : Type 0} → Result ℕ E → List ℕ → Bool
gave_return (Ok count) buffer = has_return (take count buffer)
gave_return (Err _) buffer = false

-- the hint if lines were refused and the text has carriage returns
abbrev pub return_hint : (refused : ℕ) → Bool → Option (List ℕ)
return_hint refused seen =
    if nat_lt 0 refused && seen then Some (codes "the events have carriage returns (CRLF): a line ends in a newline alone")
    else None
