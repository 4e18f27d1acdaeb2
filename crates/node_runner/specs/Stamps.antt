-- The clocks of nodes that run side by side (Lamport 1978): an event is later than what it waited
-- for.
use Rattle.std.specs.Prelude.{◌≡◌, ℕ, ◌+◌, ◌<◌, ◌^◌, if◌then◌else◌, nat_lt, nat_le, max, List, filter, Option, Some, None}
use Rattle.weaving.specs.declared.journal.Stamped.{Stamped}
use Rattle.weaving.specs.Matched.{stamps}

-- the greatest stamp of an item
abbrev pub last_stamp : ℕ
last_stamp = 2 ^ 62

-- the greatest stamp of a place that comes back: after waiting for it, a node may still send
abbrev pub last_place : ℕ
last_place = 2 ^ 61

-- the stamp of an event after two others, if it is not above the last stamp
abbrev pub stamp_after : ℕ → ℕ → Option ℕ
stamp_after a b = if nat_lt (max a b) last_stamp then Some (max a b + 1) else None

-- the take took what came in, and is later
pub record IsTakeOf (taken came : Stamped) : Type 0 where
  pub item : taken.item ≡ came.item
  pub later : came.stamp < taken.stamp

-- the stamps of the places that takes give back
abbrev pub given_back : List Stamped → List ℕ
given_back takes = filter (λ stamp. nat_le stamp last_place) (stamps takes)
