use Rattle.lock_client.proofs.Counting.{starts, gives_back}
use Rattle.lock_client.specs.declared.client.ClientStage.TheVariants.{Asking}
use Rattle.lock_client.proofs.laws.one_lock_is_taken.Goals as goal

pub returns-clause-starts : goal.returns-clause-starts
returns-clause-starts c = λ keeps events. starts keeps Asking events

pub returns-clause-gives_back : goal.returns-clause-gives_back
returns-clause-gives_back c = λ keeps events. gives_back keeps Asking events
