use Rattle.lock_desk.proofs.Passing.{passes}
use Rattle.lock_desk.proofs.laws.waiting_tickets_are_served.Goals as goal

pub returns-clause-passes : goal.returns-clause-passes
returns-clause-passes c = passes
