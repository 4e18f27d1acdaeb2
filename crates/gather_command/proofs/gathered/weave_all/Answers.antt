use Rattle.std.proofs.Common.{◌≡◌, true, [], arith}
use Rattle.gather_command.specs.Reading.{MayFail}
use Rattle.gather_command.proofs.Weaves.{none-woven, woven-more}
use Rattle.gather_command.proofs.gathered.weave_all.Goals as goal

pub loop-init : goal.loop-init
loop-init g c =
    let sink = g.K.EventSink in
    let laws = g.met.K.EventSink in
    ([], none-woven (MayFail g.S.Source.failures) sink.takes sink.failures laws.takes_none laws.takes_both c.args.weaving.now c.args.sink.now)

pub loop-preserved : goal.loop-preserved
loop-preserved g c =
    let sink = g.K.EventSink in
    let laws = g.met.K.EventSink in
    let (ms, has) = c.loop.invariant in
    let more : c.in_ok-weave_next.field-0 ≡ true = grind arith in
    woven-more (MayFail g.S.Source.failures) sink.takes sink.failures laws.takes_none laws.takes_both
    c.args.weaving.now c.loop.weaving c.weave_next.new.weaving c.args.sink.now c.loop.sink c.weave_next.new.sink ms
    c.in_ok-weave_next.field-0 more has c.in_ok-weave_next.ensures
