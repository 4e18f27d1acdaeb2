use Rattle.std.proofs.Common.{arith}
use Rattle.euler_ring.proofs.Masks.{ids_count}
use Rattle.euler_ring.proofs.mask.count.Goals as goal

pub returns : goal.returns
returns c = ids_count c.args.ids (omega arith)
