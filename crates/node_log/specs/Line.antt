-- A line of a node's log.
use Rattle.std.specs.Prelude.{ℕ, Bool, nat_lt, if◌then◌else◌, List, [], ◌++◌, codes, decimal}
use Rattle.node_log.specs.declared.event.Level.{Level}
use Rattle.node_log.specs.declared.event.NodeEvent.{NodeEvent}
use Rattle.node_log.specs.declared.event.NodeEvent.TheVariants as event
use Rattle.node_log.specs.Events.{level_of, priority_of}

-- how the link to a neighbour is
abbrev pub link_text : ℕ → List ℕ → List ℕ
link_text id is = codes "the link to node " ++ (decimal id ++ (codes " is " ++ is))

-- what became of the client with a ticket
abbrev pub ticket_text : ℕ → List ℕ → List ℕ
ticket_text ticket said = codes "ticket " ++ (decimal ticket ++ (codes " " ++ said))

abbrev pub event_text : NodeEvent → List ℕ
event_text event.Begins = codes "begins"
event_text event.Ends = codes "ends"
event_text (event.Up id) = codes "the link to node " ++ (decimal id ++ codes " is up")
event_text (event.Down id) = codes "the link to node " ++ (decimal id ++ codes " is down")
event_text (event.Granted ticket) = codes "ticket " ++ (decimal ticket ++ codes " is granted the lock")
event_text (event.Lost ticket) = codes "ticket " ++ (decimal ticket ++ codes " has lost the lock")
event_text (event.GivenBack ticket) = codes "ticket " ++ (decimal ticket ++ codes " has given the lock back")
event_text event.Full = codes "64 clients wait, and further ones are refused"
event_text event.Room = codes "clients may wait again"
event_text event.Crowded = codes "128 clients are connected, and further ones are closed"
event_text event.Seats = codes "clients may connect again"
event_text event.Astray = codes "its distance or parent has been wrong for 2 s"
event_text event.InPlace = codes "its distance and parent are right again"

-- how urgent a line is
abbrev pub level_text : Level → List ℕ
level_text level = codes "<" ++ (decimal (priority_of level) ++ codes ">")

-- the priority in angle brackets, as the journal of systemd reads it in front of a line (sd-daemon)
abbrev pub priority_text : NodeEvent → Bool → List ℕ
priority_text event has_priority =
    if has_priority then codes "<" ++ (decimal (priority_of (level_of event)) ++ codes ">") else []

-- how many lines were left out
abbrev pub left_out_text : ℕ → List ℕ
left_out_text count =
    if nat_lt 0 count then codes " (" ++ (decimal count ++ codes " lines were left out before)") else []

abbrev pub log_line : ℕ → NodeEvent → ℕ → Bool → List ℕ
log_line id event left_out has_priority =
    priority_text event has_priority
    ++ (codes "tokentree: node " ++ (decimal id ++ (codes ": " ++ (event_text event ++ left_out_text left_out))))
