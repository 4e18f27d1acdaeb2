use Rattle.std.proofs.Common.{sym}
use Rattle.network_hints.proofs.EdgesRead.{two_integers-other}
use Rattle.network_hints.proofs.reading.two_integers.Goals as goal

pub returns-then-ends-ne2 : goal.returns-then-ends-ne2
returns-then-ends-ne2 c = sym (two_integers-other c.args.ends.now c.if-ends-ne2.true)
