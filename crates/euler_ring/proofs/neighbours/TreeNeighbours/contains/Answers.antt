use Rattle.std.proofs.Common.{arith}
use Rattle.std.proofs.lemmas.Bool.Decides.{nat_tests}
use Rattle.euler_ring.proofs.Masks.{on_ids}
use Rattle.euler_ring.proofs.neighbours.TreeNeighbours.contains.Goals as goal

pub returns-then-id-lt64 : goal.returns-then-id-lt64
returns-then-id-lt64 c = rw (← c.self.view_is) (let on = on_ids c.self.inside.ids c.args.id in grind (arith, nat_tests))

pub returns-else-id-lt64 : goal.returns-else-id-lt64
returns-else-id-lt64 c = rw (← c.self.view_is) (let on = on_ids c.self.inside.ids c.args.id in grind (arith, nat_tests))
