use Rattle.std.proofs.Common.{arith}
use Rattle.std.proofs.lemmas.Bool.Decides.{nat_tests}
use Rattle.lock_desk.specs.Desk.{DeskState}
use Rattle.lock_desk.proofs.Ranges.{fits-asked}
use Rattle.lock_desk.proofs.desk.Desk.ask.Goals as goal

pub invariant_of-self : goal.invariant_of-self
invariant_of-self g c =
    let before : DeskState = record { waiting = c.self.inside.waiting.items; lent = c.self.inside.lent; left = c.self.inside.left; served = c.self.inside.served } in
    rw c.push_reserved.ensures.items (omega arith, fits-asked c.self.inside.lease c.args.ticket before (grind (arith, nat_tests)) c.self.invariant.1 (grind (arith, nat_tests)))
