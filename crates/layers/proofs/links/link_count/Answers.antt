use Rattle.std.proofs.Common.{◌≡◌, ◌∙◌, ap, sym, ◌+◌, ◌<◌, ◌++◌, length, arith}
use Rattle.std.proofs.lemmas.Grind.{common_steps}
use Rattle.topology.specs.Network.{neighbours_of}
use Rattle.layers.proofs.Counts.{links-more, links-whole, more-links, few-neighbours}
use Rattle.layers.proofs.links.link_count.Goals as goal

pub loop-from-preserved : goal.loop-from-preserved
loop-from-preserved g c =
    let net = c.args.net.now in
    let below : c.loop-from.from < net.nodes = omega (arith, c.loop-from-test.true, c.nodes-from-end.ensures.nodes) in
    let len : length c.neighbours.result.now ≡ length (neighbours_of net c.loop-from.from) = ap length c.neighbours.ensures in (
      more-links net c.loop-from.from c.loop-from.count (length c.neighbours.result.now) below c.loop-from.invariant.0 len,
      omega (arith, c.loop-from.invariant.1, len, few-neighbours net c.loop-from.from, c.nodes-from-end.ensures.network.limits.most),
    )

pub returns : goal.returns
returns g c =
    let net = c.args.net.now in
    let end : c.loop-from.from ≡ net.nodes = omega (arith, c.loop-from-test.false, c.loop-from.auto.from-end, c.nodes-from-end.ensures.nodes) in
    c.loop-from.invariant.0 ∙ ap length (links-whole net c.loop-from.from end)
