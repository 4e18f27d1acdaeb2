use Rattle.schedules.proofs.Taking.{goes-on}
use Rattle.schedules.proofs.laws.taking.Goals as goal

pub returns : goal.returns
returns g c = goes-on g.S.EventSink.takes g.met.S.EventSink.takes_both
