use Rattle.std.proofs.Common.{refl}
use Rattle.lock_client.proofs.Holding.{heard}
use Rattle.lock_client.proofs.laws.a_client_ends.Goals as goal

pub returns : goal.returns
returns c = record {
  in_time = λ keeps. refl;
  unserved = λ keeps. refl;
  stopped = λ keeps signal. refl;
  gives_back = λ keeps end. refl;
  lost = λ keeps end. (_, refl);
  heard = heard;
  left_alone = λ keeps end. (_, refl);
  waited = λ keeps end. (_, refl);
}
