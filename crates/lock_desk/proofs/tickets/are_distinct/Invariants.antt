use Rattle.std.proofs.Common.{◌≡◌, drop}
use Rattle.lock_desk.specs.Desk.{are_distinct}
use Rattle.lock_desk.proofs.tickets.are_distinct.Given as goal

abbrev pub invariant-loop-i : goal.invariant-loop-i
invariant-loop-i l = are_distinct l.tickets ≡ are_distinct (drop l.i l.tickets)
