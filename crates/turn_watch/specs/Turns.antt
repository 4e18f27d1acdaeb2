-- How long the times between the ends of a node's turns are, in microseconds of a clock that never goes back.
use Rattle.std.specs.Prelude.{ℕ, ◌+◌, ◌-◌, ◌/◌, ◌^◌, ◌==◌, min, max, nat_lt, if◌then◌else◌}
use Rattle.turn_watch.specs.declared.turns.Lately.{Lately}
use Rattle.turn_watch.specs.declared.turns.TurnTimes.{TurnTimes}

-- a count that stays at the greatest number of 64 bits
abbrev pub one_more : ℕ → ℕ
one_more count = min (count + 1) (2 ^ 64 - 1)

-- which half minute of the clock a time lies in
abbrev pub half_minute : ℕ → ℕ
half_minute now = now / 30000000

-- nothing ended in the half minutes that are kept at a time
abbrev pub none_kept : ℕ → Lately
none_kept now = record { half = half_minute now; present = 0; before = 0; earlier = 0 }

-- no turn has ended yet
abbrev pub begun : ℕ → TurnTimes
begun now = record {
  count = 0;
  ended = now;
  longest = 0;
  late = 0;
  lately = none_kept now;
}

-- after `steps` half minutes more: what ended three half minutes ago or earlier is forgotten
abbrev pub moved_by : ℕ → ℕ → Lately → Lately
moved_by steps half l =
    if steps == 0 then l
    else if steps == 1 then record { half = half; present = 0; before = l.present; earlier = l.before }
    else if steps == 2 then record { half = half; present = 0; before = 0; earlier = l.present }
    else record { half = half; present = 0; before = 0; earlier = 0 }

-- what is kept at a time
abbrev pub moved_to : ℕ → Lately → Lately
moved_to now l = moved_by (half_minute now - l.half) (half_minute now) l

-- a gap ended, or whatever else has a length
abbrev pub gap_noted : ℕ → ℕ → Lately → Lately
gap_noted now gap l = record (moved_to now l) { present = max (moved_to now l).present gap }

-- the longest gap that is kept at a time
abbrev pub longest_lately : ℕ → Lately → ℕ
longest_lately now l =
    max (max (moved_to now l).present (moved_to now l).before) (moved_to now l).earlier

-- a turn ended; it is late if more than `limit` passed since the one before it ended
abbrev pub turn_ended : ℕ → ℕ → TurnTimes → TurnTimes
turn_ended limit now t = record {
  count = one_more t.count;
  ended = now;
  longest = max t.longest (now - t.ended);
  late = if nat_lt limit (now - t.ended) then one_more t.late else t.late;
  lately = gap_noted now (now - t.ended) t.lately;
}
