use Rattle.std.proofs.Common.{List, sym, subst}
use Rattle.std.proofs.lemmas.List.{take_more}
use Rattle.record_gathering.specs.declared.facts.Fact.{Fact}
use Rattle.gather_command.specs.Scene.{HasSet}
use Rattle.gather_command.proofs.Scenes.{none-set, both-set}
use Rattle.gather_command.proofs.scene.set_all.Goals as goal

pub loop-fact-init : goal.loop-fact-init
loop-fact-init g c = none-set g.K.EventSink.takes g.K.EventSink.failures g.met.K.EventSink.takes_none g.met.K.EventSink.takes_both _ _

pub loop-fact-preserved : goal.loop-fact-preserved
loop-fact-preserved g c =
    let sink = g.K.EventSink in
    let laws = g.met.K.EventSink in
    let facts = c.args.facts.now in
    let i = c.loop-fact.fact-index in
    subst (λ (fs : List Fact). HasSet sink.takes sink.failures c.args.scene.now c.args.sink.now fs c.sets.new.self c.sets.new.sink)
    (sym (take_more facts i _ c.loop-fact-test.true))
    (both-set sink.takes sink.failures laws.takes_none laws.takes_both c.facts_join.ensures c.runs.ensures.join
    c.args.scene.now c.loop-fact.scene c.sets.new.self c.args.sink.now c.loop-fact.sink c.sets.new.sink _ _
    c.loop-fact.invariant c.in_ok-sets.ensures.set)
