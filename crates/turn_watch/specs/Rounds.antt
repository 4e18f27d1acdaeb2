-- How often the token came round at a node, by the moves of one of its machines (Dijkstra 1974).
use Rattle.std.specs.Prelude.{Bool, false, ◌==◌, ◌&&◌, not, if◌then◌else◌, Option, None, Some}
use Rattle.turn_watch.specs.declared.rounds.MachineSight.{MachineSight}
use Rattle.turn_watch.specs.declared.rounds.RoundCount.{RoundCount}
use Rattle.turn_watch.specs.Turns.{one_more}

-- no machine was seen yet
abbrev pub no_rounds : RoundCount
no_rounds = record { count = 0; last = None }

-- the same machine has another value than before, so it moved
abbrev pub has_moved : Option MachineSight → Option MachineSight → Bool
has_moved (Some before) (Some after) = (before.port == after.port) && not (before.value == after.value)
has_moved _ _ = false

-- what a turn's end shows of the machine: each move is counted
abbrev pub machine_seen : Option MachineSight → RoundCount → RoundCount
machine_seen sight r = record {
  count = if has_moved r.last sight then one_more r.count else r.count;
  last = sight;
}
