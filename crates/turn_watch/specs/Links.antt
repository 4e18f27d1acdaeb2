-- Since when the link to a neighbour has been up or down, in microseconds of a clock that never goes
-- back.
use Rattle.std.specs.Prelude.{ℕ, ◌-◌, ◌==◌, ◌&&◌, not, Bool, false, if◌then◌else◌, List, slice_index_or}
use Rattle.turn_watch.specs.declared.links.LinkSight.{LinkSight}
use Rattle.turn_watch.specs.declared.links.LinkTimes.{LinkTimes}

-- no connection was made yet
abbrev pub down_since : ℕ → LinkTimes
down_since now = record { sight = record { is_up = false; made = 0 }; since = now }

-- each connection that was made broke, was closed or was replaced, but for the one that stands
abbrev pub break_count : LinkSight → ℕ
break_count sight = sight.made - (if sight.is_up then 1 else 0)

-- a link is as it was if it is up or down as before, by the same connection
abbrev pub is_same : LinkSight → LinkSight → Bool
is_same a b = (if a.is_up then b.is_up else not b.is_up) && (a.made == b.made)

-- what is seen of a link: one that changed has been like this since now
abbrev pub link_seen : LinkSight → ℕ → LinkTimes → LinkTimes
link_seen sight now l = if is_same l.sight sight then l else record { sight = sight; since = now }

-- the link to a node; for one that is not noted, a link over which no connection was ever made
abbrev pub link_of : List LinkTimes → ℕ → LinkTimes
link_of links id = slice_index_or links id (down_since 0)
