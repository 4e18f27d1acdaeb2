-- What a node answered, from the bytes that came.
use Rattle.std.specs.Prelude.{ℕ, ◌==◌, if◌then◌else◌, List, take, Option, None, Some, option_and_then}
use Rattle.std.specs.List.{position}
use Rattle.std.specs.Option.{option_map}
use Rattle.node_texts.specs.declared.status_line.StatusLine.{StatusLine}
use Rattle.status_readings.specs.declared.answers.NodeAnswer.{NodeAnswer}
use Rattle.node_texts.specs.StatusText.{short_line_status}

-- the bytes before the first newline, if there is one
abbrev pub first_line : List ℕ → Option (List ℕ)
first_line came = option_map (λ end. take end came) (position (λ byte. byte == 10) came)

-- what a line says, if it is a status line
abbrev pub line_said : List ℕ → Option StatusLine
line_said line = short_line_status line

abbrev pub own_line : ℕ → StatusLine → Option StatusLine
own_line node line = if line.node == node then Some line else None

-- this node's status line, if it is the first line that came
abbrev pub status_in : ℕ → List ℕ → Option StatusLine
status_in node came = option_and_then (own_line node) (option_and_then line_said (first_line came))

abbrev pub answer_in : ℕ → List ℕ → NodeAnswer
answer_in node came = record { node = node; line = status_in node came }
