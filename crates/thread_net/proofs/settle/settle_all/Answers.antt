use Rattle.std.proofs.Common.{rules, arith, subst, ◌∙◌, take_all}
use Rattle.std.proofs.Math.Path.{fun_ext}
use Rattle.topology.specs.Network.{IsAcceptedNetwork}
use Rattle.thread_net.proofs.Settling.{next-edge, settling-more, still-cabled}
use Rattle.thread_net.proofs.settle.settle_all.Goals as goal

pub settle_edge-requires-clause-joined : goal.settle_edge-requires-clause-joined
settle_edge-requires-clause-joined g c =
    let net = c.args.links.now.net in
    let next = next-edge net (subst IsAcceptedNetwork c.net.ensures.net c.nodes-known_nodes.ensures.network) c.joined.ensures.back c.edges.result.now (search rules) c.loop-index.index (search (rules, arith)) in
    rw c.loop-index.invariant.0 next.joined.0

pub settle_edge-requires-clause-cable : goal.settle_edge-requires-clause-cable
settle_edge-requires-clause-cable g c =
    let net = c.args.links.now.net in
    let next = next-edge net (subst IsAcceptedNetwork c.net.ensures.net c.nodes-known_nodes.ensures.network) c.joined.ensures.back c.edges.result.now (search rules) c.loop-index.index (search (rules, arith)) in
    still-cabled next c.loop-index.invariant.3 c.requires.cabled

pub loop-index-preserved : goal.loop-index-preserved
loop-index-preserved g c =
    let net = c.args.links.now.net in
    let next = next-edge net (subst IsAcceptedNetwork c.net.ensures.net c.nodes-known_nodes.ensures.network) c.joined.ensures.back c.edges.result.now (search rules) c.loop-index.index (search (rules, arith)) in
    let it = c.loop-index.invariant in
    let e = c.settle_edge.ensures in
    (e.net ∙ it.0, e.spares ∙ it.1, e.all ∙ it.2, settling-more next it.3 _ _ e.forth e.home (λ a b. e.left (rw it.0 a) (rw it.0 b)) e.others)

pub returns : goal.returns
returns g c =
    let whole = take_all c.loop-index.index c.args.links.now.net.edges (search (rules, arith)) in
    let it = c.loop-index.invariant in
    record { net = it.0; spares = it.1; flushed = λ u v joined. it.3.flushed u v (rw whole joined); settled = λ able. fun_ext (λ i. fun_ext (λ j. rw whole at (it.3.left able i j))) }
