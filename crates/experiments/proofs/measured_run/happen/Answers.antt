use Rattle.std.proofs.Common.{◌+◌, ◌∙◌, ap, sym, drop}
use Rattle.std.proofs.lemmas.List.{drop_more}
use Rattle.run_model.specs.World.{World}
use Rattle.run_model.specs.Run.{run}
use Rattle.judge.specs.configuration.ConfigurationView.{world_of}
use Rattle.experiments.proofs.measured_run.happen.Goals as goal

pub loop-harm-preserved : goal.loop-harm-preserved
loop-harm-preserved g c =
    let left = drop (c.loop-harm.harm-index + 1) c.args.harms.now in
    c.loop-harm.invariant ∙ ap (run (world_of c.loop-harm.world)) (drop_more c.args.harms.now c.loop-harm.harm-index _ c.loop-harm-test.true)
    ∙ ap (λ (w : World). run w left) (sym c.step-answer.ensures.world)
