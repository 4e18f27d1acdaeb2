use Rattle.std.proofs.Common.{arith}
use Rattle.judge.specs.configuration.ConfigurationView.{world_of}
use Rattle.experiments.proofs.Backs.{steps-split}
use Rattle.experiments.proofs.giving_back.give_steps_back.Goals as goal

pub loop-i-preserved : goal.loop-i-preserved
loop-i-preserved g c =
    let more = c.in_ok-give_step_back.ensures in
    let now = c.loop-i.lending in
    record {
      taken = c.taking.ensures _ _ _ _ _ _ _ c.loop-i.invariant.taken
          (steps-split now.more (world_of now.configuration) now.left c.args.chances c.loop-i.generator c.loop-i.i c.args.steps _ _ _ _ c.loop-i-test.true
          more.went.0.world_is more.went.0.left_is more.went.0.more_is more.went.1)
          more.taken;
      failures = omega (arith, c.loop-i.invariant.failures, more.cause);
    }
