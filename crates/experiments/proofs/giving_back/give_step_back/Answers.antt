use Rattle.std.proofs.Common.{[], ◌∷◌, List, OnOk, subst}
use Rattle.run_model.specs.Step.{step}
use Rattle.run_model.specs.declared.event.Event.{Event}
use Rattle.judge.specs.configuration.ConfigurationView.{world_of}
use Rattle.schedules.specs.Random.{admitted, draw_step}
use Rattle.experiments.specs.GivenBack.{back_after}
use Rattle.experiments.proofs.Backs.{after-tick}
use Rattle.experiments.proofs.Harms.{then-taken}
use Rattle.experiments.proofs.giving_back.give_step_back.Goals as goal

-- the step was taken, and then what is given back at its node
pub returns-in-Tick-clause-taken : goal.returns-in-Tick-clause-taken
returns-in-Tick-clause-taken g c =
    let old = c.args.lending.now in
    let w = world_of old.configuration in
    let next = admitted w (draw_step w.net c.args.chances c.args.generator.now).0 in
    let mid = c.take.new.self in
    let end = c.give_back.new.sink in
    then-taken g.S.EventSink.takes g.met.S.EventSink.takes_both c.args.sink.now mid end (next ∷ []) (back_after old.more (step w next) old.left next).0
    c.give_back.result (subst (λ (e : Event). g.S.EventSink.takes c.args.sink.now (e ∷ []) mid) c.next_step-event.ensures.drawn.0 c.in_ok-take.ensures.taken)
    (subst (λ (b : List Event). OnOk c.give_back.result (g.S.EventSink.takes mid b end))
    (after-tick old.more w (world_of c.next_step-event.new.configuration) old.left c.next_step-event.result next c.in-Tick.node c.next_step-event.ensures.drawn.0
    c.next_step-event.ensures.happens c.in-Tick.is)
    c.give_back.ensures.taken)
