use Rattle.std.proofs.Common.{◌∙◌, arith}
use Rattle.gather_command.specs.Reading.{MayFail}
use Rattle.gather_command.proofs.Weaves.{one-woven}
use Rattle.gather_command.proofs.gathered.weave_turn.Goals as goal

pub passes-requires : goal.passes-requires
passes-requires g c = omega (arith, c.in_ok-notes.ensures.nodes, c.requires.0.0)

pub returns-clause-woven : goal.returns-clause-woven
returns-clause-woven g c =
    let sink = g.K.EventSink in
    let laws = g.met.K.EventSink in
    one-woven (MayFail g.S.Source.failures) sink.takes sink.failures laws.takes_none laws.takes_both
    c.args.weaving.now c.notes.new.self c.passes.new.self c.args.node c.args.entry.now c.deref.result.now
    c.args.sink.now c.give_all.new.sink c.requires c.in_ok-notes.ensures.noted c.passes.ensures (c.deref.ensures.value ∙ c.in_ok-notes.ensures.events)
    c.in_ok-give_all.ensures.taken c.in_ok-give_all.ensures.cause
