use Rattle.std.proofs.Common.{arith}
use Rattle.euler_ring.proofs.Masks.{ids_empty}
use Rattle.euler_ring.proofs.neighbours.TreeNeighbours.is_empty.Goals as goal

pub returns : goal.returns
returns c = rw (← c.self.view_is) (ids_empty c.self.inside.ids (omega arith))
