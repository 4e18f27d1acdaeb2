-- The line of text that shows a node.
use Rattle.std.specs.Prelude.{ℕ, Bool, true, false, List, ◌++◌, length, Option, Some, None, codes, decimal}
use Rattle.node_core.specs.Site.{Site}
use Rattle.node_core.specs.State.{LocalState}
use Rattle.node_core.specs.Machines.{is_node_privileged}

-- an id or a ticket as a decimal number, and `none` if there is none
abbrev pub number_or_none : Option ℕ → List ℕ
number_or_none None = codes "none"
number_or_none (Some number) = decimal number

abbrev pub yes_or_no : Bool → List ℕ
yes_or_no true = codes "yes"
yes_or_no false = codes "no"

-- `node V distance D parent P token T lent L waiting W` and a newline: T is yes if the node is
-- privileged, L the ticket that the lock is lent to, W the number of those that wait
abbrev pub status_line : Site → LocalState → List ℕ
status_line site s =
    codes "node " ++ decimal site.id
    ++ codes " distance " ++ decimal s.distance
    ++ codes " parent " ++ number_or_none s.parent
    ++ codes " token " ++ yes_or_no (is_node_privileged site s)
    ++ codes " lent " ++ number_or_none s.desk.lent
    ++ codes " waiting " ++ decimal (length s.desk.waiting)
    ++ codes "\n"
