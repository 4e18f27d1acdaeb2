use Rattle.std.proofs.Common.{arith}
use Rattle.lock_desk.specs.Desk.{DeskState}
use Rattle.lock_desk.proofs.Ranges.{fits-without}
use Rattle.lock_desk.proofs.desk.Desk.leave.Goals as goal

pub invariant_of-self : goal.invariant_of-self
invariant_of-self g c =
    let before : DeskState = record { waiting = c.self.inside.waiting.items; lent = c.self.inside.lent; left = c.self.inside.left; served = c.self.inside.served } in
    rw c.take_out.ensures.rest (omega arith, fits-without c.self.inside.lease c.args.ticket before c.self.invariant.1)
