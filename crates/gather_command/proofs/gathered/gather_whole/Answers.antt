use Rattle.std.proofs.lemmas.Result.{IfOk-weaker}
use Rattle.gather_command.specs.declared.gathered.Gathered.{Gathered}
use Rattle.gather_command.specs.Reading.{MayFail}
use Rattle.gather_command.proofs.Gathers.{gathered-whole}
use Rattle.gather_command.proofs.gathered.gather_whole.Goals as goal

pub returns-clause-gathered : goal.returns-clause-gathered
returns-clause-gathered g c =
    let sink = g.S.EventSink in
    IfOk-weaker c.weave_out.result _ _
    (λ (x : Gathered) has. gathered-whole (MayFail g.F.Source.failures) sink.takes sink.failures c.args.net.now c.args.nodes.items
    c.in_ok-weaving.weaving c.weave_out.new.weaving c.args.sink.now c.weave_out.new.sink x.summary x.differences.items x.flaws.items
    c.in_ok-weaving.ensures has)
    c.weave_out.ensures.woven

pub returns-clause-counted : goal.returns-clause-counted
returns-clause-counted g c =
    IfOk-weaker c.weave_out.result _ _ (λ (x : Gathered) has. has.woven.counted) c.weave_out.ensures.woven
