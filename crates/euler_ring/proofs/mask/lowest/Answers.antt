use Rattle.std.proofs.Common.{sym, arith}
use Rattle.euler_ring.proofs.Masks.{ids_none, ids_lowest}
use Rattle.euler_ring.proofs.mask.lowest.Goals as goal

pub returns-then-ids-eq0 : goal.returns-then-ids-eq0
returns-then-ids-eq0 c = rw (c.if-ids-eq0.true, ids_none)

pub returns : goal.returns
returns c = sym (ids_lowest c.args.ids (omega arith) (omega arith))
