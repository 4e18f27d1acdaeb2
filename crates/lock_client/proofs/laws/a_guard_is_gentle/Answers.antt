use Rattle.std.proofs.Common.{true, refl}
use Rattle.lock_client.proofs.Guarding.{asks, asks_first, leaves_alone, signalled, asks_whom_it_finds}
use Rattle.lock_client.specs.declared.guard.GuardStage.TheVariants.{Idle}
use Rattle.lock_client.proofs.laws.a_guard_is_gentle.Goals as goal

pub returns-clause-once : goal.returns-clause-once
returns-clause-once c = λ keeps events. asks keeps Idle events

pub returns-clause-kills : goal.returns-clause-kills
returns-clause-kills c = λ keeps events. asks_first keeps Idle events (record {})

pub returns-clause-alone : goal.returns-clause-alone
returns-clause-alone c = record { keeps = λ events. leaves_alone true Idle events refl; signalled = signalled }

pub returns-clause-ends : goal.returns-clause-ends
returns-clause-ends c = record {
  done = λ keeps. refl;
  unused = λ keeps. refl;
  looks = λ keeps. refl;
  asks = asks_whom_it_finds;
}
