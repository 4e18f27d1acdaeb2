-- What happened in a turn of a node, and what of it is said.
use Rattle.std.specs.Prelude.{ℕ, Bool, true, false, not, ◌+◌, ◌||◌, nat_lt, if◌then◌else◌, Option, None, Some, List}
use Rattle.std.specs.List.{slice_index_or}
use Rattle.lock_desk.specs.declared.act.DeskAct.{DeskAct}
use Rattle.lock_desk.specs.declared.act.DeskAct.TheVariants as act
use Rattle.node_log.specs.declared.event.NodeEvent.{NodeEvent}
use Rattle.node_log.specs.declared.event.NodeEvent.TheVariants as event
use Rattle.node_log.specs.declared.event.Level.{Level}
use Rattle.node_log.specs.declared.rate.LineRate.{LineRate}
use Rattle.node_log.specs.Events.{level_of, is_said_at}
use Rattle.node_log.specs.Rate.{answer_at, rate_after}

-- who had the lock and has given it back: a tick grants only if nobody had it any more, and takes it from nobody
-- without an end of the loan
abbrev pub gave_back : Option ℕ → DeskAct → Option ℕ → Option NodeEvent
gave_back (Some ticket) (act.Granted other) now = Some (event.GivenBack ticket)
gave_back (Some ticket) act.Quiet None = Some (event.GivenBack ticket)
gave_back before did now = None

-- who was granted it, and who lost it
abbrev pub by_act : DeskAct → Option NodeEvent
by_act (act.Granted ticket) = Some (event.Granted ticket)
by_act (act.Lost ticket) = Some (event.Lost ticket)
by_act act.Quiet = None

-- a link that was up and is down now, or the other way round
abbrev pub changed : ℕ → Bool → Bool → Option NodeEvent
changed id true false = Some (event.Up id)
changed id false true = Some (event.Down id)
changed id is_up was_up = None

abbrev pub by_link : ℕ → Bool → List Bool → Option NodeEvent
by_link id is_up up = if nat_lt id 64 then changed id is_up (slice_index_or up id false) else None

-- a desk has 64 places for those who wait, and refuses all others while they are taken. That is
-- said once, until at most half of them are taken
abbrev pub by_desk : ℕ → Bool → Option NodeEvent
by_desk waiting false = if nat_lt waiting 64 then None else Some event.Full
by_desk waiting true = if nat_lt 32 waiting then None else Some event.Room

abbrev pub full_after : ℕ → Bool → Bool
full_after waiting false = not (nat_lt waiting 64)
full_after waiting true = nat_lt 32 waiting

-- a node has at most 128 clients, and closes each further one. That is said once, until at most
-- half of them are connected and none was closed since the turn before
abbrev pub by_crowd : ℕ → ℕ → Bool → Option NodeEvent
by_crowd closed connected false = if nat_lt 0 closed then Some event.Crowded else None
by_crowd closed connected true = if nat_lt 64 connected || nat_lt 0 closed then None else Some event.Seats

abbrev pub crowded_after : ℕ → ℕ → Bool → Bool
crowded_after closed connected false = nat_lt 0 closed
crowded_after closed connected true = nat_lt 64 connected || nat_lt 0 closed

-- after the last node of the network comes the first
abbrev pub next_of : ℕ → ℕ → ℕ
next_of nodes id = if nat_lt (id + 1) nodes then id + 1 else 0

-- a log that is off says nothing; others say what is urgent enough, at most 20 lines in a second
abbrev pub admitted : Option Level → NodeEvent → ℕ → LineRate → Option ℕ
admitted None event now rate = None
admitted (Some least) event now rate =
    if is_said_at (level_of event) least then answer_at now rate else None

-- what is not urgent enough does not count as a line
abbrev pub rate_then : Option Level → NodeEvent → ℕ → LineRate → LineRate
rate_then None event now rate = rate
rate_then (Some least) event now rate =
    if is_said_at (level_of event) least then rate_after now rate else rate
