-- The earlier of two next entries.
use Rattle.std.specs.Prelude.{ℕ, if◌then◌else◌, Option, None, Some}
use Rattle.record_gathering.specs.declared.order.First.{First}
use Rattle.flight_records.specs.declared.entry.Entry.{Entry}
use Rattle.configuration.specs.run_model.World.{World}
use Rattle.record_gathering.specs.Order.{is_no_later, rank}

-- the first, if there is one and it is no later
abbrev pub earlier : Option First → First → First
earlier None turn = turn
earlier (Some first) turn =
    if is_no_later first.rank first.instant turn.rank turn.instant then first else turn

-- the earlier of two, of which each may be none: the first among the nodes before v, and v with its
-- next entry
abbrev pub with_head : World → ℕ → Option Entry → Option First → Option First
with_head w v None first = first
with_head w v (Some e) first =
    Some (earlier first (record { node = v; rank = rank w v e; instant = e.instant }))
