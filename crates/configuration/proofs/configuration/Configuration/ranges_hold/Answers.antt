use Rattle.std.proofs.Common.{◌≡◌, ◌<◌, ◌≤◌, ap, arith}
use Rattle.configuration.specs.ConfigurationView.{ConfigurationView, node_at}
use Rattle.configuration.proofs.WorldRanges.{AreInRange, next-in_range, read-node, world-in_range}
use Rattle.configuration.proofs.configuration.Configuration.ranges_hold.Goals as goal

pub loop-v-preserved : goal.loop-v-preserved
loop-v-preserved g c =
    let w : ConfigurationView = record { nodes = c.self.inside.nodes.items; links = c.self.inside.links } in
    let within : c.loop-v.v < w.links.net.nodes = omega (arith, c.loop-v-test.true, c.nodes-nodes.ensures.nodes, ap (λ n. n.nodes) c.net.ensures.net) in
    let is : c.index.result.now ≡ node_at w.nodes c.loop-v.v = read-node w.links.net w.nodes c.loop-v.v c.from.result c.index.result.now c.self.invariant within c.from.ensures c.index.ensures in
    rw (← c.self.view_is) (next-in_range w c.loop-v.v c.index.result.now c.self.invariant within is c.ranges-known_ranges.ensures.in_range (rw (← c.self.view_is) at c.loop-v.invariant))

pub returns : goal.returns
returns g c =
    let w : ConfigurationView = record { nodes = c.self.inside.nodes.items; links = c.self.inside.links } in
    let end : w.links.net.nodes ≤ c.loop-v.v = omega (arith, c.loop-v-test.false, c.nodes-nodes.ensures.nodes, ap (λ n. n.nodes) c.net.ensures.net) in
    let all : AreInRange w c.loop-v.v = rw (← c.self.view_is) at c.loop-v.invariant in
    rw (← c.self.view_is) (world-in_range c.joined.ensures.nodes w c.net.ensures.links (λ v l. all v (omega (arith, l, end))))
