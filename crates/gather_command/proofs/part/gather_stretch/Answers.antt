use Rattle.std.proofs.Common.{◌∙◌, ap, refl, arith, List}
use Rattle.std.proofs.lemmas.Result.{IfOk-weaker, IfErr-weaker}
use Rattle.node_recorder.specs.Turns.{network_mark}
use Rattle.gather_command.specs.declared.gathered.Gathered.{Gathered}
use Rattle.gather_command.specs.declared.fault.GatherFault.{GatherFault}
use Rattle.gather_command.specs.Reading.{MayFail, Reads, Begins, OpensNoMore}
use Rattle.gather_command.specs.View.{NodeRecordView, heads_in}
use Rattle.gather_command.specs.Stretch.{after_first, least_of}
use Rattle.gather_command.specs.Gathered.{IsRefused}
use Rattle.gather_command.proofs.Gathers.{gathered, broken-refused, fault-refused, fails-with}
use Rattle.gather_command.proofs.Parts.{BeginsAs, gathered-as, opened-as, fault-before, many-refused}
use Rattle.gather_command.proofs.part.gather_stretch.Goals as goal
use Rattle.gather_command.proofs.part.gather_stretch.Goals.{in-Last+in_ok-last-in-Last, in-Whole, in-From, in-Last-stretch}

pub returns-in_err-last-in-Last-clause-refused : goal.returns-in_err-last-in-Last-clause-refused
returns-in_err-last-in-Last-clause-refused g c =
    let rest = g.R.File.Source.rest in
    let reads = Reads (g.R.Records.opens c.args.records.now) rest (MayFail g.R.File.Source.failures) in
    let begins = Begins (g.R.Records.opens c.args.records.now) rest in
    let failures = g.S.EventSink.failures in
    let net = c.args.net.now in
    let sink = c.args.sink.now in
    fails-with (λ (f : GatherFault). IsRefused reads begins failures net sink f sink) c.from_residual.result _ c.from_residual.ensures.1
    (many-refused reads begins failures net sink _ c.in_err-last-in-Last.ensures.refused)

pub returns-in_err-nodes-clause-refused : goal.returns-in_err-nodes-clause-refused
returns-in_err-nodes-clause-refused g c =
    let rest = g.R.File.Source.rest in
    let fails = MayFail g.R.File.Source.failures in
    let before = g.R.Records.opens c.args.records.now in
    let now = g.R.Records.opens c.match-stretch.records in
    let same : OpensNoMore before now =
    elim c.match-stretch.branch [
      | in-Last+in_ok-last-in-Last w ↦ rw w.records-is w.in_ok-last-in-Last.ensures.same
      | in-Whole w ↦ rw w.records-is (λ v s o x. x)
    ] in
    let reads = Reads before rest fails in
    let begins = Begins before rest in
    let failures = g.S.EventSink.failures in
    let net = c.args.net.now in
    let sink = c.args.sink.now in
    fails-with (λ (f : GatherFault). IsRefused reads begins failures net sink f sink) c.from_residual-in_err-nodes.result _
    c.from_residual-in_err-nodes.ensures.1
    (fault-refused reads begins failures net sink sink _
    (fault-before before now rest fails same (network_mark net) net.nodes _
    c.in_err-nodes.ensures.refused) refl)

pub returns-in-Whole-stretch-clause-gathered : goal.returns-in-Whole-stretch-clause-gathered
returns-in-Whole-stretch-clause-gathered g c =
    let rest = g.R.File.Source.rest in
    let fails = MayFail g.R.File.Source.failures in
    let before = g.R.Records.opens c.args.records.now in
    let now = g.R.Records.opens c.match-stretch.records in
    let same : OpensNoMore before now =
    elim c.match-stretch.branch [
      | in-Last+in_ok-last-in-Last w ↦ rw w.records-is w.in_ok-last-in-Last.ensures.same
      | in-Whole w ↦ rw w.records-is (λ v s o x. x)
    ] in
    let reads = Reads before rest fails in
    let sink = g.S.EventSink in
    let net = c.args.net.now in
    let nodes = c.in_ok-nodes.nodes.items in
    rw c.in-Whole-stretch.is
    (IfOk-weaker c.gather_whole.result _ _
    (λ (x : Gathered) has. gathered fails reads sink.takes net nodes c.args.sink.now c.gather_whole.new.sink
    x.summary x.differences.items x.flaws.items
    (opened-as before now rest fails same (network_mark net) 0 nodes c.in_ok-nodes.ensures.opened)
    c.in_ok-nodes.ensures.all has)
    c.gather_whole.ensures.gathered)

pub returns-in-Whole-stretch-clause-refused : goal.returns-in-Whole-stretch-clause-refused
returns-in-Whole-stretch-clause-refused g c =
    let rest = g.R.File.Source.rest in
    let reads = Reads (g.R.Records.opens c.args.records.now) rest (MayFail g.R.File.Source.failures) in
    let begins = Begins (g.R.Records.opens c.args.records.now) rest in
    IfErr-weaker c.gather_whole.result _ _
    (λ (f : GatherFault) broken. broken-refused reads begins g.S.EventSink.failures c.args.net.now c.args.sink.now
    c.gather_whole.new.sink f broken)
    c.gather_whole.ensures.broken

pub returns-clause-refused : goal.returns-clause-refused
returns-clause-refused g c =
    let rest = g.R.File.Source.rest in
    let reads = Reads (g.R.Records.opens c.args.records.now) rest (MayFail g.R.File.Source.failures) in
    let begins = Begins (g.R.Records.opens c.args.records.now) rest in
    IfErr-weaker c.gather_opened.result _ _
    (λ (f : GatherFault) broken. broken-refused reads begins g.S.EventSink.failures c.args.net.now c.args.sink.now
    c.gather_opened.new.sink f broken)
    c.gather_opened.ensures.broken

pub returns-clause-gathered : goal.returns-clause-gathered
returns-clause-gathered g c =
    let rest = g.R.File.Source.rest in
    let fails = MayFail g.R.File.Source.failures in
    let before = g.R.Records.opens c.args.records.now in
    let now = g.R.Records.opens c.match-stretch.records in
    let same : OpensNoMore before now =
    elim c.match-stretch.branch [
      | in-Last+in_ok-last-in-Last w ↦ rw w.records-is w.in_ok-last-in-Last.ensures.same
      | in-Whole w ↦ rw w.records-is (λ v s o x. x)
    ] in
    let reads = Reads before rest fails in
    let sink = g.S.EventSink in
    let net = c.args.net.now in
    let nodes = c.in_ok-nodes.nodes.items in
    let begins : BeginsAs c.args.stretch reads net (heads_in nodes) c.match-stretch-2.instant =
    elim c.match-stretch-2.branch [
      | in-From w ↦ rw (w.in-From.is, w.instant-is) (w.after_first-instant.ensures
          ∙ ap (λ t. after_first t w.in-From.seconds) (w.earliest.ensures
          ∙ ap (λ (rs : List NodeRecordView). least_of (heads_in rs)) w.deref.ensures.value))
      | in-Last-stretch w ↦ rw (w.in-Last-stretch.is, w.instant-is) (record {
        latest = c.match-stretch.last;
        is_latest = elim c.match-stretch.branch [
          | in-Last+in_ok-last-in-Last v ↦ rw v.last-is v.in_ok-last-in-Last.ensures.found
          | in-Whole v ↦ absurd (grind (arith, v.in-Whole.is, w.in-Last-stretch.is))
        ];
        before = w.before_last-instant.ensures;
      })
    ] in
    IfOk-weaker c.gather_opened.result _ _
    (λ (x : Gathered) has. gathered-as fails reads sink.takes net c.args.stretch c.match-stretch-2.instant nodes c.args.sink.now
    c.gather_opened.new.sink x.summary x.differences.items x.flaws.items
    (opened-as before now rest fails same (network_mark net) 0 nodes c.in_ok-nodes.ensures.opened)
    c.in_ok-nodes.ensures.all begins has)
    c.gather_opened.ensures.gathered
