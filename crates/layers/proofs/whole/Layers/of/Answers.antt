use Rattle.std.proofs.Common.{◌≡◌, ◌∙◌, ap, subst, ◌+◌, length}
use Rattle.topology.specs.Eccentricity.{eccentricity_of}
use Rattle.topology.specs.Network.{IsAcceptedNetwork}
use Rattle.configuration.specs.ConfigurationView.{world_of}
use Rattle.layers.specs.Links.{links_of}
use Rattle.layers.proofs.LegitimateWorlds.{stands-legitimate}
use Rattle.layers.proofs.whole.Layers.of.Goals as goal

pub returns : goal.returns
returns g c =
    let w = world_of c.args.configuration.now in
    let net = c.net-net.ensures in
    let accepted : IsAcceptedNetwork w.net = subst (λ n. IsAcceptedNetwork n) net c.nodes-known_nodes.ensures.network in
    let links : c.link_count-links.result ≡ length (links_of w.net) = c.link_count-links.ensures ∙ ap (λ n. length (links_of n)) net in
    record {
      links = links;
      stable = c.stable_count-stable.ensures;
      last_stage = ap (λ k. k + 1) (c.eccentricity-2.ensures.computed ∙ ap eccentricity_of net);
      stage = c.stage_of.ensures;
      tree = c.is_tree_reached-tree.ensures;
      ring = c.is_token_ring_good-ring.ensures;
      loans = c.are_loans_privileged-loans.ensures;
      legitimate = stands-legitimate c.neighbours.ensures.joined c.joined.ensures.nodes w accepted c.stable_count-stable.result c.link_count-links.result
          c.stable_count-stable.ensures links c.all_stand.result c.is_tree_reached-tree.result c.is_token_ring_good-ring.result
          c.are_loans_privileged-loans.result c.all_stand.ensures c.is_tree_reached-tree.ensures c.is_token_ring_good-ring.ensures c.are_loans_privileged-loans.ensures;
    }
