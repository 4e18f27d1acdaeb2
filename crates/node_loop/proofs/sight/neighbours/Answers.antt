use Rattle.node_core.specs.View.{site_in}
use Rattle.node_loop.proofs.Sights.{is-few-at, is-node-at}
use Rattle.node_loop.proofs.sight.neighbours.Goals as goal

pub returns-clause-within : goal.returns-clause-within
returns-clause-within g c i there =
    let site = site_in c.args.node.now in (
      is-few-at c.limits.ensures c.neighbours.ensures.joined c.args.net.now site.id site c.nodes-known.ensures.network c.requires c.neighbours-2.result.now c.neighbours-2.ensures i there,
      is-node-at c.neighbours.ensures.joined c.args.net.now site.id site c.requires c.neighbours-2.result.now c.neighbours-2.ensures i there,
    )
