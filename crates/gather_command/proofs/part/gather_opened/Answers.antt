use Rattle.std.proofs.Common.{ap}
use Rattle.std.proofs.lemmas.Result.{IfOk-weaker}
use Rattle.record_gathering.specs.configuration.run_model.World.{World}
use Rattle.gather_command.specs.declared.gathered.Gathered.{Gathered}
use Rattle.gather_command.specs.Reading.{MayFail}
use Rattle.gather_command.proofs.Parts.{gathered-of, from-counted}
use Rattle.gather_command.proofs.part.gather_opened.Goals as goal

pub weave_from-requires : goal.weave_from-requires
weave_from-requires g c = ap (λ (w : World). w.net.nodes) c.in_ok-weaving.ensures.world

pub returns-clause-gathered : goal.returns-clause-gathered
returns-clause-gathered g c =
    let sink = g.S.EventSink in
    let laws = g.met.S.EventSink in
    IfOk-weaker c.weave_from.result _ _
    (λ (x : Gathered) has. gathered-of (MayFail g.F.Source.failures) sink.takes sink.failures laws.takes_both c.args.net.now c.args.instant
    c.args.nodes.items c.in_ok-weaving.weaving c.weave_from.new.weaving c.args.sink.now c.weave_from.new.sink
    x.summary x.differences.items x.flaws.items c.in_ok-weaving.ensures has)
    c.weave_from.ensures.woven

pub returns-clause-counted : goal.returns-clause-counted
returns-clause-counted g c =
    let sink = g.S.EventSink in
    IfOk-weaker c.weave_from.result _ _
    (λ (x : Gathered) has. from-counted (MayFail g.F.Source.failures) sink.takes sink.failures c.args.net.now c.args.instant
    c.in_ok-weaving.weaving c.weave_from.new.weaving c.args.sink.now c.weave_from.new.sink
    x.summary x.differences.items x.flaws.items has)
    c.weave_from.ensures.woven
