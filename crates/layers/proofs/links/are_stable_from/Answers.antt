use Rattle.configuration.specs.ConfigurationView.{world_of}
use Rattle.layers.specs.Links.{IsLinkStable}
use Rattle.layers.proofs.Stages.{neighbour-in, one-fails, one-more, each-joined}
use Rattle.layers.proofs.links.are_stable_from.Goals as goal

pub is_stable-requires-clause-to_in : goal.is_stable-requires-clause-to_in
is_stable-requires-clause-to_in g c = neighbour-in c.args.from c.net-net.ensures c.neighbours-to-items.ensures c.neighbours.ensures.joined c.loop-to-test.true

pub returns-then-not-is_stable : goal.returns-then-not-is_stable
returns-then-not-is_stable g c =
    one-fails c.args.from c.net-net.ensures c.neighbours-to-items.ensures c.neighbours.ensures.joined c.loop-to-test.true
    (λ v. IsLinkStable (world_of c.args.configuration.now) (c.args.from, v)) c.is_stable.ensures c.if-not-is_stable.true

pub loop-to-preserved : goal.loop-to-preserved
loop-to-preserved g c =
    one-more c.args.from c.net-net.ensures c.neighbours-to-items.ensures c.neighbours.ensures.joined c.loop-to-test.true
    (λ v. IsLinkStable (world_of c.args.configuration.now) (c.args.from, v)) c.is_stable.ensures c.if-not-is_stable.false c.loop-to.invariant

pub returns : goal.returns
returns g c =
    each-joined c.args.from c.net-net.ensures c.neighbours-to-items.ensures c.neighbours.ensures.joined c.joined.ensures.nodes c.nodes-known_nodes.ensures.network
    (λ v. IsLinkStable (world_of c.args.configuration.now) (c.args.from, v)) c.loop-to-test.false c.loop-to.invariant
