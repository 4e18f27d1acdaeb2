use Rattle.std.proofs.Common.{◌≡◌, ◌∙◌, ap}
use Rattle.std.specs.Prelude.{if◌then◌else◌, is_some}
use Rattle.configuration.specs.run_model.World.{World}
use Rattle.configuration.specs.run_model.Step.{step, changed}
use Rattle.configuration.specs.run_model.declared.event.Event.TheVariants.{Tick}
use Rattle.configuration.specs.ConfigurationView.{world_of}
use Rattle.schedules.proofs.random.next_step.Goals as goal

-- the refused step has changed nothing
pub returns-in-Err-clause-happens : goal.returns-in-Err-clause-happens
returns-in-Err-clause-happens g c =
    let w = world_of c.args.configuration.now in
    let event = c.draw_step-event.result in
    let same : world_of c.step.new.self ≡ w = c.step.ensures.world ∙ ap (λ r. if is_some r then w else changed w event) c.in-Err.ensures.err in
    c.step-happened.ensures.world ∙ ap (λ (x : World). step x (Tick c.node_at.result)) same
