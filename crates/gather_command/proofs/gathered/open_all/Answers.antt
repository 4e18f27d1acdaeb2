use Rattle.std.proofs.Common.{◌∙◌, ◌++◌, ap, sym, subst, arith, ℕ, ◌+◌, ◌<◌, List, [], Ok, Err, inl, length}
use Rattle.std.proofs.lemmas.List.{append-nil, length-append}
use Rattle.node_recorder.specs.Turns.{network_mark}
use Rattle.gather_command.specs.declared.fault.GatherFault.TheVariants.{Memory}
use Rattle.gather_command.specs.Reading.{MayFail, Reads}
use Rattle.gather_command.specs.View.{NodeRecordView}
use Rattle.gather_command.specs.Gathered.{AreOpened}
use Rattle.gather_command.proofs.Gathers.{opened-before, next-opened, opened-none, fails-with}
use Rattle.gather_command.proofs.gathered.open_all.Goals as goal

pub loop-node-init : goal.loop-node-init
loop-node-init g c =
    let fails = MayFail g.R.File.Source.failures in
    let reads = Reads (g.R.Records.opens c.args.records.now) g.R.File.Source.rest fails in
    record {
      opened = λ rest x. subst (λ (l : List NodeRecordView). AreOpened fails reads (network_mark c.args.net.now) 0 (l ++ rest))
          (sym c.new-nodes.ensures.items) x;
      all = ap length c.new-nodes.ensures.items;
      same = λ v side o x. x;
    }

pub loop-node-preserved : goal.loop-node-preserved
loop-node-preserved g c =
    let held = c.loop-node.invariant in
    record {
      opened = next-opened _ _ _ c.loop-node.node c.loop-node.nodes.items c.add_record.new.nodes.items c.in_ok-opened.opened held.opened
          (opened-before _ _ _ _ held.same _ _ _ c.network_mark-mark.ensures (Ok c.in_ok-opened.opened) c.in_ok-opened.ensures.opened)
          c.in_ok-add_record.ensures;
      all = ap length c.in_ok-add_record.ensures ∙ length-append _ _ ∙ ap (λ (n : ℕ). n + 1) held.all;
      same = λ v side o x. held.same v side o (c.in_ok-opened.ensures.same v side o x);
    }

pub returns-clause-opened : goal.returns-clause-opened
returns-clause-opened g c =
    let fails = MayFail g.R.File.Source.failures in
    let reads = Reads (g.R.Records.opens c.args.records.now) g.R.File.Source.rest fails in
    let mark = network_mark c.args.net.now in
    let nodes = c.loop-node.nodes.items in
    subst (λ (l : List NodeRecordView). AreOpened fails reads mark 0 l) (append-nil nodes)
    (c.loop-node.invariant.opened [] (opened-none fails reads mark c.loop-node.node))

pub returns-in_err-opened-clause-refused : goal.returns-in_err-opened-clause-refused
returns-in_err-opened-clause-refused g c =
    let below : c.loop-node.node < c.args.net.now.nodes = omega (arith, c.loop-node-test.true, c.nodes-node-end.ensures.nodes) in
    let why = c.in_err-opened.field-0.0 in
    fails-with _ c.from_residual.result why c.from_residual.ensures.1
    (c.loop-node.node, below, opened-before _ _ _ _ c.loop-node.invariant.same _ _ _ c.network_mark-mark.ensures (Err why) c.in_err-opened.ensures.opened)

pub returns-in_err-add_record-clause-refused : goal.returns-in_err-add_record-clause-refused
returns-in_err-add_record-clause-refused g c =
    let below : c.loop-node.node < c.args.net.now.nodes = omega (arith, c.loop-node-test.true, c.nodes-node-end.ensures.nodes) in
    fails-with _ c.from_residual-in_err-add_record.result Memory c.from_residual-in_err-add_record.ensures.1
    (c.loop-node.node, below, inl tt)
