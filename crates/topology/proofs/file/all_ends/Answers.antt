use Rattle.topology.proofs.EdgesRead.{none_read, one_read, not_read, all_read}
use Rattle.topology.proofs.file.all_ends.Goals as goal

pub loop-value-init : goal.loop-value-init
loop-value-init c = none_read c.args.values.now c.new-edges.result.items c.new-edges.ensures.items

pub loop-value-preserved : goal.loop-value-preserved
loop-value-preserved c =
    one_read c.args.values.now c.loop-value.value-index c.value-item.result c.loop-value.edges.items c.push.new.self.items c.in-Some.edge
    c.loop-value-test.true c.value-item.is c.in-Some.ensures c.in_ok-push-in-Some.ensures.items c.loop-value.invariant

pub returns-in-None : goal.returns-in-None
returns-in-None c = not_read c.args.values.now c.loop-value.value-index c.value-item.result c.loop-value.edges.items c.loop-value-test.true c.value-item.is c.in-None.ensures c.loop-value.invariant

pub returns : goal.returns
returns c = all_read c.args.values.now c.loop-value.value-index c.loop-value.edges.items c.loop-value-test.false c.loop-value.invariant
