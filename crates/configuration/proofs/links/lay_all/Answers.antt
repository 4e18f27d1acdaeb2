use Rattle.std.proofs.Common.{◌∙◌}
use Rattle.configuration.proofs.Placing.{laying-next}
use Rattle.configuration.proofs.links.lay_all.Goals as goal

pub loop-edge-preserved : goal.loop-edge-preserved
loop-edge-preserved g c = (
  laying-next c.args.net.now c.edges-edge-items.result.now c.loop-edge.edge-index _ c.loop-edge.places c.lay.new.places c.lay-in-loop-edge.new.places c.args.spares.now.items
      c.loop-edge.spares.items c.lay.new.spares.items c.lay-in-loop-edge.new.spares.items c.edges-edge-items.ensures c.loop-edge.invariant.0 c.loop-edge-test.true c.requires.enough
      c.lay.ensures.nodes c.lay-in-loop-edge.ensures.nodes c.lay.ensures.values c.lay.ensures.spares c.lay-in-loop-edge.ensures.values c.lay-in-loop-edge.ensures.spares,
  c.lay-in-loop-edge.ensures.capacity ∙ c.lay.ensures.capacity ∙ c.loop-edge.invariant.1,
)
