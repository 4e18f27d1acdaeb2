use Rattle.std.proofs.Common.{ℕ, get_or, Contains, subst}
use Rattle.std.proofs.lemmas.List.Elements.{Contains-get_or}
use Rattle.node_core.specs.View.{site_in}
use Rattle.node_loop.proofs.Sights.{is-few, is-node}
use Rattle.node_loop.proofs.sight.tree.Goals as goal

pub tree_neighbours-requires-clause-few : goal.tree_neighbours-requires-clause-few
tree_neighbours-requires-clause-few g c k d within =
    let node = c.args.node.now in
    let w : ℕ = get_or c.neighbours-2.result.now k d in
    is-few c.limits.ensures c.neighbours.ensures.joined c.args.net.now (site_in node).id w (site_in node) c.nodes-known.ensures.network c.requires.site
    (subst (λ ws. Contains ws w) c.neighbours-2.ensures (Contains-get_or c.neighbours-2.result.now k d within))

pub tree_neighbours-requires-clause-readable : goal.tree_neighbours-requires-clause-readable
tree_neighbours-requires-clause-readable g c w has =
    let node = c.args.node.now in
    is-node c.neighbours.ensures.joined c.args.net.now (site_in node).id w (site_in node) c.requires.site (subst (λ ws. Contains ws w) c.neighbours-2.ensures has)

pub returns-clause-neighbours : goal.returns-clause-neighbours
returns-clause-neighbours g c w on = subst (λ ws. Contains ws w) c.neighbours-2.ensures (c.tree_neighbours.ensures.neighbours w on)
