use Rattle.euler_ring.proofs.Masks.{ids_below}
use Rattle.euler_ring.proofs.mask.below.Goals as goal

pub returns : goal.returns
returns c = ids_below c.args.ids c.args.id c.requires
