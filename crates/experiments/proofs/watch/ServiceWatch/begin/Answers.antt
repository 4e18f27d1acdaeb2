use Rattle.std.proofs.Common.{◌∙◌, [], ap, subst, None}
use Rattle.judge.specs.configuration.ConfigurationView.{world_of}
use Rattle.run_model.specs.Headline.{IsServing}
use Rattle.experiments.proofs.Layering.{any-begin}
use Rattle.experiments.proofs.Watching.{IsExact, last-begins, last-by}
use Rattle.experiments.proofs.watch.ServiceWatch.begin.Goals as goal

pub returns : goal.returns
returns g c =
    let start = world_of c.args.world in
    let now = world_of c.configuration-now.result.now in
    let seen = c.new-judge.ensures.judging in
    let count = c.sweeps-sweeps.ensures.sweeps start [] seen in
    let same = ap world_of (c.configuration-now.ensures ∙ c.new-judge.ensures.configuration) in
    record {
      seen = seen;
      failed = last-begins IsServing start now c.sweeps-sweeps.result count.0 c.last_failure.result same count.1 count.2
          (last-by IsServing now c.serves-serves.result c.sweeps-sweeps.result None c.last_failure.result c.serves-serves.ensures c.last_failure.ensures);
      layers = any-begin start now c.sweeps-sweeps.result count.0 c.args.layered c.first_layers.result same count.1 count.2 c.first_layers.ensures;
    }

pub invariant_of-result : goal.invariant_of-result
invariant_of-result g c = subst (λ j. IsExact c.serves-serves.result (world_of j)) c.configuration-now.ensures c.serves-serves.ensures
