-- How entries are spelled in a record.
use Rattle.std.specs.Prelude.{ℕ, ◌-◌, ◌%◌, List, [], ◌∷◌, ◌++◌, sum}
use Rattle.flight_records.specs.declared.entry.Entry.{Entry}
use Rattle.leb128.specs.Spelling.{in_a_row}
use Rattle.flight_records.specs.Numbers.{kind, fields}

-- the numbers of an entry: its kind, the microseconds since the entry before it, and its fields
abbrev pub numbers : ℕ → Entry → List ℕ
numbers last e = kind e.noted ∷ (e.instant - last) ∷ fields e.noted

-- The check of some bytes: with it, their sum leaves 255 over 256. So no zeros pass, and no change
-- of one byte that keeps the entry's length does. It is the modular sum of Intel's hexadecimal
-- object files, complemented.
abbrev pub check : List ℕ → ℕ
check bytes = 255 - sum bytes % 256

-- an entry, after an entry of the instant `last`: its numbers, and then their check
unfoldable pub spelling : ℕ → Entry → List ℕ
spelling last e = let bytes = in_a_row (numbers last e) in bytes ++ check bytes ∷ []

-- entries in a row, each after the one before it
abbrev pub record_of : ℕ → List Entry → List ℕ
record_of last [] = []
record_of last (e ∷ es) = spelling last e ++ record_of e.instant es
