-- How urgent the events are that a node reports.
use Rattle.std.specs.Prelude.{ℕ, Bool, ◌==◌, nat_le, if◌then◌else◌, Option, None, Some}
use Rattle.node_log.specs.declared.event.NodeEvent.{NodeEvent}
use Rattle.node_log.specs.declared.event.NodeEvent.TheVariants as event
use Rattle.node_log.specs.declared.event.Level.{Level}
use Rattle.node_log.specs.declared.event.Level.TheVariants.{Warning, Notice, Info}

-- a link that is gone, a lock that is lost, a client that is refused or closed, and a node out of its place are amiss;
-- grants go on all the time
abbrev pub level_of : NodeEvent → Level
level_of (event.Down id) = Warning
level_of (event.Lost ticket) = Warning
level_of event.Full = Warning
level_of event.Crowded = Warning
level_of event.Astray = Warning
level_of (event.Granted ticket) = Info
level_of (event.GivenBack ticket) = Info
level_of _ = Notice

-- the severities of RFC 5424, 6.2.1
abbrev pub priority_of : Level → ℕ
priority_of Warning = 4
priority_of Notice = 5
priority_of Info = 6

abbrev pub level_with : ℕ → Option Level
level_with priority =
    if priority == 4 then Some Warning
    else if priority == 5 then Some Notice
    else if priority == 6 then Some Info
    else None

-- a log says what is at least as urgent as its level
abbrev pub is_said_at : Level → Level → Bool
is_said_at level least = nat_le (priority_of level) (priority_of least)
