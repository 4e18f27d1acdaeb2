-- Laws of lines.
use Rattle.std.specs.Prelude.{◌≡◌, ℕ, List, [], ◌∷◌, ◌++◌, flat_map}
use Rattle.std.specs.List.{AllByRecursion}
use Rattle.byte_lines.specs.Lines.{newline, HasNoNewline, lines_after, half_after, whole_lines, half_line}

-- a text is its lines, each with its newline, and then its half line, and there is no other newline
-- in it
pub record IsItsLines (text : List ℕ) : Type 0 where
  pub whole : text ≡ flat_map (λ line. line ++ newline ∷ []) (whole_lines text) ++ half_line text
  pub lines : AllByRecursion HasNoNewline (whole_lines text)
  pub half : HasNoNewline (half_line text)

abbrev pub TextIsItsLines : Type 0
TextIsItsLines = (text : List ℕ) → IsItsLines text

-- the lines of a text that was cut in two are those of the front, and then those of the back after
-- the front's half line
pub record LinesAreCut : Type 0 where
  pub lines : (half front back : List ℕ)
      → lines_after half (front ++ back)
      ≡ lines_after half front ++ lines_after (half_after half front) back
  pub half : (half front back : List ℕ)
      → half_after half (front ++ back) ≡ half_after (half_after half front) back

-- a newline makes the half line a whole one, and other bytes continue it
pub record LinesGrow : Type 0 where
  pub ended : (half line text : List ℕ) → HasNoNewline line
      → lines_after half (line ++ newline ∷ text) ≡ (half ++ line) ∷ lines_after [] text
  pub begun : (half line text : List ℕ) → HasNoNewline line
      → half_after half (line ++ newline ∷ text) ≡ half_after [] text
  pub same : (half more : List ℕ) → HasNoNewline more → lines_after half more ≡ []
  pub longer : (half more : List ℕ) → HasNoNewline more → half_after half more ≡ half ++ more
