use Rattle.std.proofs.Common.{◌∙◌, ◌∷◌, [], ◌++◌, ap, subst}
use Rattle.judge.specs.configuration.ConfigurationView.{world_of}
use Rattle.run_model.specs.Headline.{IsServing}
use Rattle.experiments.proofs.Layering.{any-go_on}
use Rattle.experiments.proofs.Watching.{IsExact, exact-after, last-goes_on, last-by}
use Rattle.experiments.proofs.watch.ServiceWatchEventSink.take.Goals as goal

pub returns-clause-taken : goal.returns-clause-taken
returns-clause-taken g c = rw (← c.self.view_is) (λ start before watched.
    let e = c.args.event.now in
    let now = world_of c.configuration-now.result.now in
    let seen = c.step-answer.ensures.judging start.world before watched.seen in
    let es = before ++ e ∷ [] in
    let count = c.sweeps-sweeps.ensures.sweeps start.world es seen in
    let same = ap world_of c.configuration-now.ensures ∙ seen.judging.now_is in
    let exact : IsExact c.serves_after-self-inside.result now =
    exact-after _ _ _ _ e _ _ _ c.configuration.ensures c.configuration-now.ensures c.step-answer.ensures.world c.touched_sight-before.ensures c.self.invariant
    c.serves_after-self-inside.ensures
    in
    record {
      seen = seen;
      failed = last-goes_on IsServing start.world now before e c.sweeps-sweeps.result count.0 c.self.inside.last.serving c.last_failure.result watched.failed
          same count.1 count.2
          (last-by IsServing now c.serves_after-self-inside.result c.sweeps-sweeps.result c.self.inside.last.serving c.last_failure.result exact
          c.last_failure.ensures);
      layers = any-go_on start.world now before e c.sweeps-sweeps.result count.0 start.layered c.self.inside.last.layers c.next_layers.result c.next_layers.ensures
          seen.judging.in_range same count.1 count.2 watched.layers;
    })

pub invariant_of-self : goal.invariant_of-self
invariant_of-self g c =
    subst (λ j. IsExact c.serves_after-self-inside.result (world_of j)) c.configuration-now.ensures
    (exact-after _ _ _ _ c.args.event.now _ _ _ c.configuration.ensures c.configuration-now.ensures c.step-answer.ensures.world c.touched_sight-before.ensures
    c.self.invariant c.serves_after-self-inside.ensures)
