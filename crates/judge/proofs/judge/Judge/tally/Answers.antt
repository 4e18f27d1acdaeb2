use Rattle.std.proofs.Common.{◌∙◌, ap, sym, IsTrue}
use Rattle.topology.specs.Network.{are_joined}
use Rattle.configuration.specs.ConfigurationView.{world_of}
use Rattle.configuration.specs.run_model.declared.event.Event.TheVariants.{Tick}
use Rattle.judge.proofs.Judging.{joined-then}
use Rattle.judge.proofs.JudgeSteps.{seen-looked}
use Rattle.judge.proofs.judge.Judge.tally.Goals as goal

pub returns-then-are_joined-clause-tally : goal.returns-then-are_joined-clause-tally
returns-then-are_joined-clause-tally g c =
    let now = world_of c.self.inside.configuration in
    let joined : IsTrue (are_joined now.net.edges c.args.from c.args.to) =
    sym (ap (λ net. are_joined net.edges c.args.from c.args.to) c.net-net.ensures) ∙ sym c.are_joined.ensures ∙ c.if-are_joined.true in
    rw (← c.self.view_is) (λ start es seen.
    let j = seen.judging in
    let then = joined-then c.below.ensures start es (Tick 0) now c.self.inside.stretch c.self.inside.sweeps c.self.inside.refused j c.args.from c.args.to joined in (
      j.done,
      j.stretch,
      j.count,
      j.since,
      j.counted,
      (
        ap (λ t. t.old) c.tally.ensures.tally ∙ j.kept.old c.args.from c.args.to then,
        ap (λ t. t.renewed) c.tally.ensures.tally ∙ j.kept.renewed c.args.from c.args.to then,
      ),
    ))

pub returns-then-are_joined-clause-same : goal.returns-then-are_joined-clause-same
returns-then-are_joined-clause-same g c = rw (← c.self.view_is) (seen-looked _ c.tally.new.self _ c.tally.ensures.looked)
