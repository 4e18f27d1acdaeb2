use Rattle.record_gathering.proofs.Accepted.{accepted-leads, none-refused, same-damage}
use Rattle.record_gathering.proofs.laws.accepted_is_enough.Goals as goal

pub returns : goal.returns
returns c = record { leads = accepted-leads; none_refused = none-refused; damage = same-damage }
