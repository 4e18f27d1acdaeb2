-- What is known of nodes that have no room for a client: what they say at their windows.
use Rattle.std.specs.Prelude.{ℕ, ◌==◌, if◌then◌else◌, Bool, true, false, List, [], ◌∷◌, map, is_some, Option, None, option_and_then}
use Rattle.status_readings.specs.declared.answers.NodeAnswer.{NodeAnswer}
use Rattle.node_texts.specs.declared.status_line.StatusLine.{StatusLine}
use Rattle.status_readings.specs.StandingSaid.{line_standing}
use Rattle.status_command.specs.Answering.{own_line}
use Rattle.status_command.specs.Asking.{text_in}
use Rattle.status_command.specs.declared.asking.Asked.{Asked}
use Rattle.status_command.specs.declared.asking.Contact.{Contact}
use Rattle.status_command.specs.declared.asking.Contact.TheVariants.{Open, Closed, Done}

-- the node closed the last connection, and gave no line
abbrev pub is_closed : Contact → Bool
is_closed Closed = true
is_closed (Open stream) = false
is_closed Done = false

abbrev pub is_without_room : Asked → Bool
is_without_room asked = is_closed asked.contact

-- the nodes that closed the connection and gave no line, in their order
abbrev pub without_room : List Asked → List ℕ
without_room [] = []
without_room (asked ∷ all) =
    if is_without_room asked then asked.node ∷ without_room all else without_room all

-- how the node stands, by its own line
abbrev pub own_standing : Asked → Option StatusLine
own_standing asked = option_and_then (own_line asked.node) (line_standing (text_in asked))

-- how a node stands, by the first of these that is about it
abbrev pub standing_in : ℕ → List Asked → Option StatusLine
standing_in node [] = None
standing_in node (asked ∷ all) = if asked.node == node then own_standing asked else standing_in node all

-- the line at the desk counts if there is one; else what the node says at its window
abbrev pub filled_one : List Asked → NodeAnswer → NodeAnswer
filled_one windows answer =
    if is_some answer.line then answer
    else record { node = answer.node; line = standing_in answer.node windows }

abbrev pub filled : List Asked → List NodeAnswer → List NodeAnswer
filled windows answers = map (filled_one windows) answers
