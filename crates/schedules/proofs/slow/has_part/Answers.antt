use Rattle.std.proofs.Common.{sym}
use Rattle.schedules.proofs.Parting.{place-says}
use Rattle.schedules.proofs.slow.has_part.Goals as goal

pub returns : goal.returns
returns c = rw c.from-share.ensures (sym (place-says c.args.share c.args.round))
