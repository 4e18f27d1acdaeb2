use Rattle.std.proofs.Common.{arith, ◌<◌, Ok, Err, inr}
use Rattle.node_recorder.specs.Turns.{network_mark}
use Rattle.gather_command.specs.Reading.{MayFail, Reads}
use Rattle.gather_command.proofs.Gathers.{opened-before, fails-with}
use Rattle.gather_command.proofs.Stretches.{none-through, one-through}
use Rattle.gather_command.proofs.stretch.latest.Goals as goal

pub loop-node-init : goal.loop-node-init
loop-node-init g c =
    let fails = MayFail g.R.File.Source.failures in
    let reads = Reads (g.R.Records.opens c.args.records.now) g.R.File.Source.rest fails in
    record { through = none-through reads (network_mark c.args.net.now); same = λ v side o x. x }

pub loop-node-preserved : goal.loop-node-preserved
loop-node-preserved g c =
    let held = c.loop-node.invariant in
    record {
      through = one-through _ _ _ c.loop-node.node c.loop-node.greatest c.in_ok-greatest.greatest c.in_ok-opened.opened
          (opened-before _ _ _ _ held.same _ _ _ c.network_mark-mark.ensures (Ok c.in_ok-opened.opened) c.in_ok-opened.ensures.opened)
          held.through c.in_ok-greatest.ensures.read;
      same = λ v side o x. held.same v side o (c.in_ok-opened.ensures.same v side o x);
    }

pub returns-in_err-opened-clause-refused : goal.returns-in_err-opened-clause-refused
returns-in_err-opened-clause-refused g c =
    let below : c.loop-node.node < c.args.net.now.nodes = omega (arith, c.loop-node-test.true, c.nodes-node-end.ensures.nodes) in
    let why = c.in_err-opened.field-0.0 in
    fails-with _ c.from_residual.result why c.from_residual.ensures.1
    (inr (c.loop-node.node, below, opened-before _ _ _ _ c.loop-node.invariant.same _ _ _ c.network_mark-mark.ensures (Err why) c.in_err-opened.ensures.opened))
