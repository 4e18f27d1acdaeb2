use Rattle.euler_ring.proofs.Masks.{ids_above}
use Rattle.euler_ring.proofs.mask.above.Goals as goal

pub returns : goal.returns
returns c = ids_above c.args.ids c.args.id c.requires
