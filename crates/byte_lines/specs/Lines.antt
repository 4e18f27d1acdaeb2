-- The lines of a byte text, and the half line after them.
use Rattle.std.specs.Prelude.{◌≢◌, ℕ, ◌==◌, if◌then◌else◌, List, [], ◌∷◌, ◌++◌}
use Rattle.std.specs.List.{AllByRecursion}

-- the byte that ends a line
abbrev pub newline : ℕ
newline = 10

-- no byte of the line ends it
abbrev pub HasNoNewline : List ℕ → Type 0
HasNoNewline line = AllByRecursion (λ b. b ≢ newline) line

-- the lines that end in a text, without their newlines; the first of them continues the half line
-- that came before
abbrev pub lines_after : List ℕ → List ℕ → List (List ℕ)
lines_after half [] = []
lines_after half (b ∷ bs) =
    if b == newline then half ∷ lines_after [] bs else lines_after (half ++ b ∷ []) bs

-- the half line that is then at the end
abbrev pub half_after : List ℕ → List ℕ → List ℕ
half_after half [] = half
half_after half (b ∷ bs) = if b == newline then half_after [] bs else half_after (half ++ b ∷ []) bs

-- the lines of a text: those that a newline ended
abbrev pub whole_lines : List ℕ → List (List ℕ)
whole_lines text = lines_after [] text

-- what comes after the last newline
abbrev pub half_line : List ℕ → List ℕ
half_line text = half_after [] text
