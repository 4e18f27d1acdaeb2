use Rattle.std.proofs.Common.{◌≡◌, take}
use Rattle.std.specs.Vec.{vec_capacity}
use Rattle.lock_desk.proofs.tickets.write_over.Given as goal

abbrev pub invariant-loop-ticket : goal.invariant-loop-ticket
invariant-loop-ticket g l = (l.list.items ≡ take l.ticket-index l.tickets) × (vec_capacity l.list ≡ vec_capacity l.fn.list)
