-- The events text: its lines, one after the other, and what each is.
use Rattle.std.specs.Prelude.{ℕ, ◌==◌, if◌then◌else◌, nat_lt, List, [], ◌∷◌, ◌++◌, length, map, Option, Some, None}
use Rattle.byte_lines.specs.Lines.{half_line, whole_lines}
use Rattle.run_model.specs.declared.event.Event.{Event}
use Rattle.events_text.specs.declared.text_line.TextLine.{TextLine}
use Rattle.events_text.specs.declared.text_line.TextLine.TheVariants.{Passed, Unread, Said}
use Rattle.events_text.specs.EventLine.{line_event}

-- a line that spells an event means it, and any other is unread
abbrev pub said : Option Event → TextLine
said (Some event) = Said event
said None = Unread

-- an empty line, and one that begins with `#`, is passed over; else a line of more than 64 bytes is
-- unread, and any other means what it spells
abbrev pub text_line : List ℕ → TextLine
text_line [] = Passed
text_line (byte ∷ bytes) =
    if byte == 35 then Passed else if nat_lt 64 (length (byte ∷ bytes)) then Unread else said (line_event (byte ∷ bytes))

-- the lines that a newline ended
abbrev pub ended_lines : List ℕ → List TextLine
ended_lines bytes = map text_line (whole_lines bytes)

-- what stands after the last newline is a line if it is not empty
abbrev pub last_line : List ℕ → List (List ℕ)
last_line [] = []
last_line (byte ∷ bytes) = (byte ∷ bytes) ∷ []

-- the lines of a whole text; the first is line 1
abbrev pub text_lines : List ℕ → List TextLine
text_lines bytes = ended_lines bytes ++ map text_line (last_line (half_line bytes))
