use Rattle.std.proofs.Common.{arith}
use Rattle.judge.proofs.Laying.{laid-edge}
use Rattle.judge.proofs.tallies.lay_all.Goals as goal

pub loop-edge-preserved : goal.loop-edge-preserved
loop-edge-preserved g c = (
  laid-edge c.args.net.now.nodes c.args.net.now.edges c.edges-edge-items.result.now c.loop-edge.edge-index _ c.loop-edge.table c.set.new.self c.set-in-loop-edge.new.self
      c.loop-edge.place c.edges-edge-items.ensures c.loop-edge.invariant.0 c.loop-edge.invariant.1 c.loop-edge-test.true c.set.ensures.nodes c.set-in-loop-edge.ensures.nodes
      c.set.ensures.values c.set-in-loop-edge.ensures.values,
  (let is = c.loop-edge.invariant.1 in omega (arith, is)),
)
