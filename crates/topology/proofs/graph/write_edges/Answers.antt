use Rattle.std.proofs.Common.{◌∙◌, ap, sym, arith, length}
use Rattle.std.proofs.lemmas.List.{take_all, take_more, length-take}
use Rattle.topology.proofs.graph.write_edges.Goals as goal

pub loop-edge-init : goal.loop-edge-init
loop-edge-init g c = (c.clear.ensures.items, c.clear.ensures.capacity)

pub loop-edge-preserved : goal.loop-edge-preserved
loop-edge-preserved g c = (
  c.push_reserved.ensures.items ∙ rw c.loop-edge.invariant.0 (sym (take_more c.args.edges.now c.loop-edge.edge-index (0, 0) c.loop-edge-test.true)),
  c.push_reserved.ensures.capacity ∙ c.loop-edge.invariant.1,
)

pub push_reserved-requires : goal.push_reserved-requires
push_reserved-requires g c =
    omega (arith, ap length c.loop-edge.invariant.0, length-take c.loop-edge.edge-index c.args.edges.now, c.loop-edge.list.ok.0, c.loop-edge.invariant.1, c.requires)

pub returns-clause-edges : goal.returns-clause-edges
returns-clause-edges g c = c.loop-edge.invariant.0 ∙ take_all c.loop-edge.edge-index c.args.edges.now c.loop-edge-test.false

pub returns-clause-room : goal.returns-clause-room
returns-clause-room g c = c.loop-edge.invariant.1
