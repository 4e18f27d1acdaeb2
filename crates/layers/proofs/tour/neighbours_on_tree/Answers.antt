use Rattle.std.proofs.Common.{◌<◌, ◌≤◌, slice_index_or, arith}
use Rattle.std.proofs.lemmas.List.Elements.{Contains-get_or}
use Rattle.layers.proofs.Tours.{is-node}
use Rattle.layers.proofs.tour.neighbours_on_tree.Goals as goal

pub tree_neighbours-requires-clause-few : goal.tree_neighbours-requires-clause-few
tree_neighbours-requires-clause-few g c k d within =
    let net = c.args.net.now in
    let ws = c.neighbours-2.result.now in
    let node : slice_index_or ws k d < net.nodes =
    is-node c.neighbours.ensures.joined net c.args.v ws (slice_index_or ws k d) c.neighbours-2.ensures (Contains-get_or ws k d within) in
    let few : net.nodes ≤ 64 = (c.limits.ensures net c.nodes-known.ensures.network).1 in
    omega (arith, node, few)

pub tree_neighbours-requires-clause-readable : goal.tree_neighbours-requires-clause-readable
tree_neighbours-requires-clause-readable g c w has =
    is-node c.neighbours.ensures.joined c.args.net.now c.args.v c.neighbours-2.result.now w c.neighbours-2.ensures has

pub returns-clause-nodes : goal.returns-clause-nodes
returns-clause-nodes g c w on =
    is-node c.neighbours.ensures.joined c.args.net.now c.args.v c.neighbours-2.result.now w c.neighbours-2.ensures (c.tree_neighbours.ensures.neighbours w on)
