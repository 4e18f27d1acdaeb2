use Rattle.std.proofs.Common.{arith}
use Rattle.judge.specs.configuration.ConfigurationView.{world_of}
use Rattle.experiments.proofs.Backs.{rounds-split}
use Rattle.experiments.proofs.giving_back.give_rounds_back.Goals as goal

pub loop-i-preserved : goal.loop-i-preserved
loop-i-preserved g c =
    let more = c.in_ok-give_round_back.ensures in
    let now = c.loop-i.lending in
    record {
      taken = c.taking.ensures _ _ _ _ _ _ _ c.loop-i.invariant.taken
          (rounds-split c.args.net.now now.more (world_of now.configuration) now.left c.loop-i.i c.args.count _ _ _ c.loop-i-test.true
          more.went.world_is more.went.left_is more.went.more_is)
          more.taken;
      failures = omega (arith, c.loop-i.invariant.failures, more.cause);
    }
