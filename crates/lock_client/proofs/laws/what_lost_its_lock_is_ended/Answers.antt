use Rattle.lock_client.proofs.Counting.{endings, kept}
use Rattle.lock_client.proofs.Losing.{asks, lost}
use Rattle.lock_client.specs.declared.client.ClientStage.TheVariants.{Asking}
use Rattle.std.proofs.Common.{false}
use Rattle.lock_client.proofs.laws.what_lost_its_lock_is_ended.Goals as goal

pub returns : goal.returns
returns c = record {
  asks = asks;
  once = λ events. endings false Asking events;
  lost = lost;
  kept = λ events. kept Asking events;
}
