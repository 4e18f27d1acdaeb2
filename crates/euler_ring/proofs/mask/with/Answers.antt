use Rattle.euler_ring.proofs.Masks.{has-set_same, has-set_other}
use Rattle.euler_ring.proofs.mask.with.Goals as goal

pub returns-clause-same : goal.returns-clause-same
returns-clause-same c = has-set_same c.args.ids c.args.id c.requires

pub returns-clause-others : goal.returns-clause-others
returns-clause-others c = λ i l ne. has-set_other c.args.ids c.args.id i c.requires ne
