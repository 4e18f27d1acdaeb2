-- Laws of status lines: each has one spelling.
use Rattle.std.specs.Prelude.{◌≡◌, ℕ, ◌<◌, List, Option, Some, None, ⊤}
use Rattle.node_texts.specs.declared.status_line.StatusLine.{StatusLine}
use Rattle.node_texts.specs.StatusText.{line_status, status_text}

-- an id or a ticket, if there is one, is below 65536
abbrev pub IsSmallOrNone : Option ℕ → Type 0
IsSmallOrNone None = ⊤
IsSmallOrNone (Some number) = number < 65536

-- each number of a status line is below 65536
pub record IsSmall (s : StatusLine) : Type 0 where
  pub node : s.node < 65536
  pub distance : s.distance < 65536
  pub parent : IsSmallOrNone s.parent
  pub lent : IsSmallOrNone s.lent
  pub waiting : s.waiting < 65536

-- each status line is read from its text
abbrev pub LinesAreRead : Type 0
LinesAreRead = (s : StatusLine) → IsSmall s → line_status (status_text s) ≡ Some s

-- and from no other
abbrev pub LinesHaveOneSpelling : Type 0
LinesHaveOneSpelling = (line : List ℕ) (s : StatusLine) → line_status line ≡ Some s
    → line ≡ status_text s
