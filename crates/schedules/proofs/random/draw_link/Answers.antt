use Rattle.std.proofs.Common.{◌<◌, length}
use Rattle.schedules.proofs.Edges.{has-edge}
use Rattle.schedules.proofs.random.draw_link.Goals as goal

pub draw_below-at-requires : goal.draw_below-at-requires
draw_below-at-requires g c =
    let net = c.args.net.now in
    let ok = c.nodes-known_nodes.ensures.network in
    let some : 0 < length net.edges = has-edge net (c.tree.ensures.known net ok) ok.limits.two in
    rw c.edges-edges.ensures some
