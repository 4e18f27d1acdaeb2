use Rattle.lock_client.proofs.Holding.{throughout, is_done}
use Rattle.lock_client.proofs.laws.a_command_that_is_done_held_the_lock.Goals as goal

pub returns : goal.returns
returns c = λ end events. (throughout end events, is_done end events)
