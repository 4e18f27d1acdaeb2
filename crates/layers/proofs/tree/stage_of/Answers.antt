use Rattle.std.proofs.Common.{◌≡◌, ◌∙◌, ap, sym, refl, ◌+◌, ◌≤◌, arith}
use Rattle.topology.specs.Eccentricity.{eccentricity_of}
use Rattle.configuration.specs.ConfigurationView.{world_of}
use Rattle.layers.proofs.Stages.{stage-stands}
use Rattle.layers.proofs.tree.stage_of.Goals as goal

pub returns-then-not-is_at_stage : goal.returns-then-not-is_at_stage
returns-then-not-is_at_stage g c =
    let w = world_of c.args.configuration.now in
    let k = c.loop-stage.stage in
    let within : k ≤ eccentricity_of w.net + 1 =
    omega (arith, c.loop-stage-test.true, c.eccentricity-last.ensures.computed, ap eccentricity_of c.net-net.ensures) in
    stage-stands w k (eccentricity_of w.net + 1) refl c.loop-stage.invariant within
    (λ less at. let e = sym (c.is_at_stage.ensures.1 at) ∙ c.if-not-is_at_stage.true in absurd (grind (arith, e)))
