-- What a node's line for whoever looks at it says of its state: the fields of its status line.
use Rattle.std.specs.Prelude.{ℕ, nat_lt, if◌then◌else◌, Bool, List, Option, None, Some, codes, is_some, option_and_then}
use Rattle.serde_json.specs.Data.{Data}
use Rattle.serde_json.specs.Find.{get, as_null, as_number, as_u64}
use Rattle.serde_json.specs.Read.{read}
use Rattle.status_readings.specs.PremisesText.{member_number}
use Rattle.node_texts.specs.declared.status_line.StatusLine.{StatusLine}
use Rattle.status_readings.specs.LookSaid.{member_truth}

-- a number, if it is below 65536
abbrev pub in_range : ℕ → Option ℕ
in_range number = if nat_lt number 65536 then Some number else None

-- the number below 65536 that is the member of this name
abbrev pub member_id : List ℕ → Data → Option ℕ
member_id name value = option_and_then in_range (member_number name value)

abbrev pub some_number : Option ℕ → Option (Option ℕ)
some_number None = None
some_number (Some number) = Some (Some number)

-- no number if the value is null; else it must be a number below 65536
abbrev pub number_or_null : Data → Option (Option ℕ)
number_or_null value =
    if is_some (as_null value) then Some None
    else some_number (option_and_then in_range (option_and_then as_u64 (as_number value)))

-- the number below 65536, or null, that is the member of this name
abbrev pub member_or_null : List ℕ → Data → Option (Option ℕ)
member_or_null name value = option_and_then number_or_null (get name value)

-- all that a status line says, if each is there
abbrev pub all_standing : Option ℕ → Option ℕ → Option (Option ℕ) → Option Bool → Option (Option ℕ) → Option ℕ → Option StatusLine
all_standing (Some node) (Some distance) (Some parent) (Some token) (Some lent) (Some waiting) =
    Some (record { node = node; distance = distance; parent = parent; token = token; lent = lent; waiting = waiting })
all_standing _ _ _ _ _ _ = None

-- what a JSON value says of the state of a node
abbrev pub standing_said : Data → Option StatusLine
standing_said value =
    all_standing (member_id (codes "node") value) (member_id (codes "distance") value)
    (member_or_null (codes "parent") value) (member_truth (codes "token") value)
    (member_or_null (codes "lent") value) (member_id (codes "waiting") value)

-- what a line says of the state of a node, if it is JSON
abbrev pub line_standing : List ℕ → Option StatusLine
line_standing line = option_and_then standing_said (read line)
