-- What a node's line for whoever looks at it says of its turns, and what is printed of it.
use Rattle.std.specs.Prelude.{ℕ, List, [], ◌∷◌, ◌++◌, Option, None, Some, codes, decimal, option_and_then}
use Rattle.serde_json.specs.Data.{Data}
use Rattle.serde_json.specs.Find.{get, as_number, as_u64}
use Rattle.serde_json.specs.Read.{read}
use Rattle.status_readings.specs.declared.premises.TurnsSaid.{TurnsSaid}
use Rattle.status_readings.specs.declared.premises.PremisesLine.{PremisesLine}
use Rattle.node_texts.specs.Thousandths.{millis_text}

-- the number that is the member of this name
abbrev pub member_number : List ℕ → Data → Option ℕ
member_number name value =
    option_and_then (λ found. option_and_then as_u64 (as_number found)) (get name value)

-- four numbers, if each is there
abbrev pub all_said : Option ℕ → Option ℕ → Option ℕ → Option ℕ → Option TurnsSaid
all_said (Some count) (Some longest) (Some lately) (Some late) =
    Some (record { count = count; longest = longest; lately = lately; late = late })
all_said _ _ _ _ = None

abbrev pub members_said : Data → Option TurnsSaid
members_said turns =
    all_said (member_number (codes "count") turns) (member_number (codes "longest_us") turns)
    (member_number (codes "lately_us") turns) (member_number (codes "late") turns)

-- what a JSON value says of a node's turns
abbrev pub turns_said : Data → Option TurnsSaid
turns_said value = option_and_then members_said (get (codes "turns") value)

-- what a line says of a node's turns, if it is JSON
abbrev pub line_said : List ℕ → Option TurnsSaid
line_said line = option_and_then turns_said (read line)

-- the line of a node
abbrev pub premises_line : ℕ → Option TurnsSaid → List ℕ
premises_line node None = codes "node " ++ (decimal node ++ codes " no answer")
premises_line node (Some said) =
    codes "node " ++ (decimal node
    ++ (codes " turns " ++ (decimal said.count
    ++ (codes " longest " ++ (millis_text said.longest
    ++ (codes " ms lately " ++ (millis_text said.lately
    ++ (codes " ms late " ++ decimal said.late))))))))

-- the lines of all nodes
abbrev pub premises_text : List PremisesLine → List ℕ
premises_text [] = []
premises_text (line ∷ lines) = (premises_line line.node line.said ++ codes "\n") ++ premises_text lines
