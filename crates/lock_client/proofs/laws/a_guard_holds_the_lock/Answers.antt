use Rattle.lock_client.proofs.Guarding.{gives_back_rightly}
use Rattle.lock_client.proofs.laws.a_guard_holds_the_lock.Goals as goal

pub returns : goal.returns
returns c = gives_back_rightly
