-- When a name is like another.
use Rattle.std.specs.Prelude.{ℕ, List, Bool, nat_le, nat_eq, length}
use Rattle.std.specs.Str.{chars}
use Rattle.strsim.specs.Edits.{levenshtein_row}

-- at most two characters are put in, left out or changed (Levenshtein 1966)
abbrev pub is_like : List ℕ → List ℕ → Bool
is_like name other =
    nat_le (levenshtein_row nat_eq (chars name) (chars other) (length (chars other))) 2
