-- The mark of a command, by which the command and whatever it starts are found.
use Rattle.std.specs.Prelude.{◌≡◌, ℕ, List, ◌++◌, codes, decimal}

-- any bytes, a dot, a number and a semicolon, such as `12.34;`: the bytes are meant to be the id of
-- a process, or 0 if unknown, and the number the time in nanoseconds
abbrev pub IsMark : List ℕ → Type 0
IsMark mark = (process : List ℕ) × (nanos : ℕ) × (mark ≡ process ++ (codes "." ++ (decimal nanos ++ codes ";")))

-- this mark stands last, after any bytes, which are meant to be the marks of the locks around it
abbrev pub EndsIn : List ℕ → List ℕ → Type 0
EndsIn mark marks = (before : List ℕ) × (marks ≡ before ++ mark)

-- a mark ends with a semicolon
abbrev pub IsClosed : List ℕ → Type 0
IsClosed mark = EndsIn (codes ";") mark
