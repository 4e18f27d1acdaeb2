-- A world whose nodes and links are in range is in range.
use Rattle.std.proofs.Common.{◌≡◌, ◌∙◌, sym, ap, subst, ℕ, ◌+◌, ◌<◌, ◌≤◌, ◌⊎◌, inl, inr, IsTrue, List, All, [], length, slice_index_or, arith}
use Rattle.std.proofs.lemmas.Grind.{common_steps}
use Rattle.std.proofs.lemmas.List.Elements.{All-get_or}
use Rattle.topology.specs.Network.{Network, are_joined}
use Rattle.topology.specs.Ranges.{ranges_of}
use Rattle.run_model.specs.link_model.Link.{link}
use Rattle.run_model.specs.World.{IsWorldInRange, item_fits}
use Rattle.run_model.specs.node_core.Site.{site_of}
use Rattle.run_model.specs.node_core.State.{IsNodeInRange}
use Rattle.run_model.specs.node_core.View.{NodeView, site_in, state_of}
use Rattle.configuration.specs.LinksView.{IsLinks, link_between, under_way}
use Rattle.configuration.specs.PairTable.{value_at}
use Rattle.configuration.specs.ConfigurationView.{ConfigurationView, AreNodesOf, node_at, states_of, world_of}
use Rattle.topology.specs.Laws.{JoinedAreNodes}

-- the first nodes are in range
abbrev pub AreInRange : ConfigurationView → ℕ → Type 0
AreInRange w n = (v : ℕ) → v < n → IsNodeInRange (site_of w.links.net v) (states_of w.links.net w.nodes v)

pub next-in_range : (w : ConfigurationView) (n : ℕ) (node : NodeView) → AreNodesOf w.links.net w.nodes → n < w.links.net.nodes → node ≡ node_at w.nodes n
    → IsNodeInRange (site_in node) (state_of node) → AreInRange w n → AreInRange w (n + 1)
next-in_range w n node nodes within is one all v less =
    let order : (v ≡ n) ⊎ (v < n) = grind (arith, less) in
    elim order [
      | inl same ↦ subst (λ k. IsNodeInRange (site_of w.links.net k) (states_of w.links.net w.nodes k)) (sym same) here
      | inr below ↦ all v below
    ]
  where
    state : state_of node ≡ states_of w.links.net w.nodes n
    state = let a = ap state_of is in grind (arith, common_steps, a, within)

    here : IsNodeInRange (site_of w.links.net n) (states_of w.links.net w.nodes n)
    here = subst (λ s. IsNodeInRange s (states_of w.links.net w.nodes n)) (ap site_in is ∙ nodes.sites n within) (subst (λ s. IsNodeInRange (site_in node) s) state one)

module _ (joined_nodes : JoinedAreNodes) (w : ConfigurationView) (links : IsLinks w.links) where
  link-there : (u v : ℕ) → IsTrue (are_joined w.links.net.edges u v) → (v < w.links.net.nodes) × (value_at w.links.places u v < length w.links.links) × (u < w.links.net.nodes)
  link-there u v joined =
      let ends = joined_nodes w.links.net u v links.network joined in
      (ends.1, links.placed.inside u v ends.0 ends.1, ends.0)

  pub world-in_range : AreInRange w w.links.net.nodes → IsWorldInRange (world_of w)
  world-in_range nodes = record {
    network = links.network;
    nodes = nodes;
    capacity = λ u v joined.
        let t = link-there u v joined in
        let a = All-get_or (λ link. length link.items ≤ link.capacity) w.links.links (value_at w.links.places u v) (link 0 []) t.1 links.within in
        let c = links.placed.capacity u v t.2 t.0 in
        let l = t.0 in
        let k = t.2 in
        grind (arith, common_steps, a, c, l, k, joined);
    items = λ u v joined.
        let t = link-there u v joined in
        let a = All-get_or (λ link. All (λ item. IsTrue (item_fits (ranges_of w.links.net) item)) link.items) w.links.links (value_at w.links.places u v) (link 0 []) t.1 links.fits in
        let same : under_way w.links u v ≡ (link_between w.links u v).items = (let l = t.0 in let k = t.2 in grind (arith, common_steps, l, k)) in
        subst (λ items. All (λ item. IsTrue (item_fits (ranges_of w.links.net) item)) items) (sym same) a;
  }

-- a node that is read at its place
pub read-node : (net : Network) (nodes : List NodeView) (n i : ℕ) (node : NodeView) → AreNodesOf net nodes → n < net.nodes → i ≡ n → node ≡ slice_index_or nodes i node
    → node ≡ node_at nodes n
read-node net nodes n i node are within same is = let all = are.all_nodes in grind (arith, common_steps, all, within, same, is)
