-- Tickets that are written in place of those that wait.
use Rattle.std.specs.Prelude.{ℕ, Bool, ◌&&◌, nat_le, List, length, Option}
use Rattle.std.specs.List.{list_all}
use Rattle.lock_desk.specs.Desk.{DeskState, is_number, are_distinct, may_be_lent}

-- tickets may be written in place of those that wait if there are at most 64, all distinct, and
-- none of them borrows
abbrev pub queue_fits : List ℕ → Option ℕ → Bool
queue_fits tickets lent =
    nat_le (length tickets) 64 && list_all is_number tickets && are_distinct tickets
    && may_be_lent tickets lent

-- the desk with these tickets waiting instead
abbrev pub with_queue : DeskState → List ℕ → DeskState
with_queue d tickets = record { waiting = tickets; lent = d.lent; left = d.left; served = d.served }
