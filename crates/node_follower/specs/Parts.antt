-- A node's whole state, as the parts that a record begins with.
use Rattle.std.specs.Prelude.{ℕ, List, [], ◌∷◌, ◌++◌, map}
use Rattle.flight_records.specs.declared.entry.StatePart.{StatePart}
use Rattle.flight_records.specs.declared.entry.StatePart.TheVariants.{Start, Own, Port, Waits, Loan, Whole}
use Rattle.node_core.specs.Site.{Site}
use Rattle.node_core.specs.State.{LocalState}

-- distance and parent
abbrev pub own_part : LocalState → StatePart
own_part s = Own s.distance s.parent

-- the port to w, and the value of the machine that comes in from there
abbrev pub port_part : LocalState → ℕ → StatePart
port_part s w = Port w (s.port w).seq (s.port w).last (s.port w).staged (s.port w).copy (s.value w)

-- the loan
abbrev pub loan_part : LocalState → StatePart
loan_part s = Loan s.desk.lent s.desk.left s.desk.served

-- the whole state of a node of the network with this number
abbrev pub state_parts : ℕ → Site → LocalState → List StatePart
state_parts network site s =
    Start network site.id ∷ own_part s
    ∷ (map (port_part s) site.neighbours ++ (map Waits s.desk.waiting ++ (loan_part s ∷ Whole ∷ [])))
