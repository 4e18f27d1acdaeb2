use Rattle.std.proofs.Common.{◌≡◌, ◌∙◌, ap, subst, OnOk}
use Rattle.run_model.specs.World.{World}
use Rattle.run_model.specs.Run.{run}
use Rattle.run_model.specs.Start.{default_world}
use Rattle.judge.specs.configuration.ConfigurationView.{world_of}
use Rattle.experiments.specs.Plan.{harms_of, turns}
use Rattle.experiments.proofs.Harms.{then-taken, counts-later}
use Rattle.experiments.proofs.plan.give_plan.Goals as goal

pub returns-clause-taken : goal.returns-clause-taken
returns-clause-taken g c =
    let net = c.args.net.now in
    let harms = harms_of net c.args.scramble in
    let between = c.give_scramble.new.sink in
    let first = c.in_ok-give_scramble.ensures in
    let world : world_of c.give_scramble.new.configuration ≡ run (default_world net) harms =
    first.happen ∙ ap (λ (w : World). run w harms) c.in_ok-configuration.ensures in
    then-taken g.S.EventSink.takes g.met.S.EventSink.takes_both c.args.sink.now between c.give_turns.new.sink harms (turns net (run (default_world net) harms) c.args.loan c.args.order)
    c.give_turns.result first.taken
    (subst (λ (w : World). OnOk c.give_turns.result (g.S.EventSink.takes between (turns net w c.args.loan c.args.order) c.give_turns.new.sink)) world
    c.give_turns.ensures.taken)

pub returns-clause-cause : goal.returns-clause-cause
returns-clause-cause g c = counts-later c.give_turns.result _ _ _ c.in_ok-give_scramble.ensures.cause c.give_turns.ensures.cause
