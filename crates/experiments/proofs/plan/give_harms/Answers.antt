use Rattle.std.proofs.Common.{◌+◌, ◌∙◌, ap, sym, drop, arith}
use Rattle.std.proofs.lemmas.List.{drop_more}
use Rattle.run_model.specs.World.{World}
use Rattle.run_model.specs.Run.{run}
use Rattle.judge.specs.configuration.ConfigurationView.{world_of}
use Rattle.experiments.proofs.plan.give_harms.Goals as goal

pub loop-harm-preserved : goal.loop-harm-preserved
loop-harm-preserved g c =
    let more = c.in_ok-take.ensures in
    let front = drop_more c.args.harms.now c.loop-harm.harm-index _ c.loop-harm-test.true in
    let left = drop (c.loop-harm.harm-index + 1) c.args.harms.now in
    record {
      happen = c.loop-harm.invariant.happen ∙ ap (run (world_of c.loop-harm.configuration)) front
          ∙ ap (λ (w : World). run w left) (sym c.step-happened.ensures.world);
      taken = c.taking.ensures _ _ _ _ _ _ _ c.loop-harm.invariant.taken front more.taken;
      failures = omega (arith, c.loop-harm.invariant.failures, more.cause);
    }
