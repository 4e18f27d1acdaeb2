use Rattle.std.proofs.Common.{refl}
use Rattle.lock_client.proofs.Losing.{before, handed}
use Rattle.lock_client.proofs.laws.signals_are_heeded.Goals as goal

pub returns : goal.returns
returns c = record { before = before; stays = λ keeps signal. refl; handed_on = handed }
