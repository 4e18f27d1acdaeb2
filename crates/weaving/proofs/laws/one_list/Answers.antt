use Rattle.weaving.proofs.OneWoven.{one-woven-list}
use Rattle.weaving.proofs.laws.one_list.Goals as goal

pub returns : goal.returns
returns c = one-woven-list
