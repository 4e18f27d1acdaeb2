-- LEB128, "little-endian base 128": a number in groups of seven bits, the lowest first, one group a
-- byte. Each byte but the last has its high bit set. Source: DWARF Debugging Information Format,
-- version 5, 2017, section 7.6 (unsigned LEB128).
use Rattle.std.specs.Prelude.{ℕ, zero, suc, ◌+◌, ◌/◌, ◌%◌, nat_lt, if◌then◌else◌, List, [], ◌∷◌, flat_map}

-- a number in at most `more` + 1 bytes
abbrev pub leb128_in : ℕ → ℕ → List ℕ
leb128_in zero n = n ∷ []
leb128_in (suc more) n =
    if nat_lt n 128 then n ∷ [] else (n % 128 + 128) ∷ leb128_in more (n / 128)

-- a number below 2^64, in at most ten bytes
unfoldable pub leb128 : ℕ → List ℕ
leb128 n = leb128_in 9 n

-- numbers in a row
abbrev pub in_a_row : List ℕ → List ℕ
in_a_row ns = flat_map leb128 ns
