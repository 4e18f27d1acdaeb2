use Rattle.std.proofs.Common.{arith}
use Rattle.std.proofs.lemmas.Grind.{common_steps}
use Rattle.std.proofs.lemmas.Bool.Decides.{nat_tests}
use Rattle.lock_desk.proofs.Ranges.{all-numbers}
use Rattle.lock_desk.proofs.tickets.queue_fits.Goals as goal

pub returns-then-are_distinct : goal.returns-then-are_distinct
returns-then-are_distinct c = let numbers = all-numbers c.args.tickets.now c.type_inv.tickets in grind (arith, common_steps, nat_tests, numbers)
