use Rattle.std.proofs.Common.{◌≡◌, ◌∙◌, ap, sym, subst, ◌+◌, ◌<◌, ◌≤◌, arith}
use Rattle.topology.specs.Network.{IsAcceptedNetwork}
use Rattle.configuration.specs.ConfigurationView.{world_of}
use Rattle.layers.specs.Links.{AreSuch, Nothing_left, IsLinkStable}
use Rattle.layers.proofs.Counts.{such-join, links-more, links-whole}
use Rattle.layers.proofs.links.stable_count.Goals as goal

pub loop-from-init : goal.loop-from-init
loop-from-init g c = (Nothing_left, omega arith)

pub loop-from-preserved : goal.loop-from-preserved
loop-from-preserved g c =
    let w = world_of c.args.configuration.now in
    let P = IsLinkStable w in
    let accepted : IsAcceptedNetwork w.net = subst (λ n. IsAcceptedNetwork n) c.net.ensures c.nodes-from-end.ensures.network in
    let nodes : c.nodes-from-end.result ≡ w.net.nodes = c.nodes-from-end.ensures.nodes ∙ ap (λ n. n.nodes) c.net.ensures in
    let below : c.loop-from.from < w.net.nodes = omega (arith, c.loop-from-test.true, nodes) in (
      subst (λ ys. AreSuch P ys (c.loop-from.count + c.stable_count_from-count.result)) (sym (links-more w.net c.loop-from.from below))
          (such-join P c.loop-from.invariant.0 c.stable_count_from-count.ensures.count),
      omega (arith, c.loop-from.invariant.1, c.stable_count_from-count.ensures.few, accepted.limits.most),
    )

pub returns : goal.returns
returns g c =
    let w = world_of c.args.configuration.now in
    let nodes : c.nodes-from-end.result ≡ w.net.nodes = c.nodes-from-end.ensures.nodes ∙ ap (λ n. n.nodes) c.net.ensures in
    let end : c.loop-from.from ≡ w.net.nodes = omega (arith, c.loop-from-test.false, c.loop-from.auto.from-end, nodes) in
    subst (λ ys. AreSuch (IsLinkStable w) ys c.loop-from.count) (links-whole w.net c.loop-from.from end) c.loop-from.invariant.0
