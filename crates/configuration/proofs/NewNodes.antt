-- Nodes as at their start.
use Rattle.std.proofs.Common.{◌≡◌, ◌∙◌, sym, ap, subst, ℕ, ◌+◌, ◌<◌, ◌≤◌, ◌⊎◌, inl, inr, arith, refl, List, [], ◌∷◌, ◌++◌, length}
use Rattle.std.proofs.Math.Path.{fun_ext}
use Rattle.std.proofs.lemmas.Grind.{common_steps}
use Rattle.topology.specs.Network.{Network}
use Rattle.topology.specs.Ranges.{ranges_of}
use Rattle.run_model.specs.node_core.Site.{site_of}
use Rattle.run_model.specs.node_core.State.{default_node}
use Rattle.run_model.specs.node_core.View.{NodeView, site_in, state_of}
use Rattle.run_model.specs.Start.{world_with_spares}
use Rattle.configuration.specs.LinksView.{LinksView, spare_pairs, under_way}
use Rattle.configuration.specs.ConfigurationView.{AreNodesOf, node_at, states_of, world_of}

-- the nodes below k, each at its site and as at its start
pub record AreNew (net : Network) (nodes : List NodeView) (k : ℕ) : Type 0 where
  pub count : length nodes ≡ k
  pub sites : (v : ℕ) → v < k → site_in (node_at nodes v) ≡ site_of net v
  pub states : (v : ℕ) → v < k → state_of (node_at nodes v) ≡ default_node (ranges_of net)

pub new-none : (net : Network) → AreNew net [] 0
new-none net = record { count = refl; sites = λ v less. absurd (omega arith); states = λ v less. absurd (omega arith) }

earlier : (nodes : List NodeView) (new : NodeView) (v : ℕ) → v < length nodes → node_at (nodes ++ new ∷ []) v ≡ node_at nodes v
earlier nodes new v less = grind (arith, common_steps)

latest : (nodes : List NodeView) (new : NodeView) → node_at (nodes ++ new ∷ []) (length nodes) ≡ new
latest nodes new = grind (arith, common_steps)

-- what holds for the earlier nodes and for the new one holds for all
module _ (P : ℕ → NodeView → Type 0) (nodes : List NodeView) (k : ℕ) (count : length nodes ≡ k) (new : NodeView) where
  with-new : ((v : ℕ) → v < k → P v (node_at nodes v)) → P k new → (v : ℕ) → v < k + 1 → P v (node_at (nodes ++ new ∷ []) v)
  with-new each one v less =
      let cases : (v < k) ⊎ (v ≡ k) = grind arith in
      elim cases [
        | inl early ↦ subst (P v) (sym (earlier nodes new v (subst (λ n. v < n) (sym count) early))) (each v early)
        | inr same ↦ subst (λ i. P i (node_at (nodes ++ new ∷ []) i)) (sym same)
            (subst (P k) (sym (ap (node_at (nodes ++ new ∷ [])) (sym count) ∙ latest nodes new)) one)
      ]

pub new-more : (net : Network) (nodes : List NodeView) (k : ℕ) (new : NodeView) → AreNew net nodes k → site_in new ≡ site_of net k
    → state_of new ≡ default_node (ranges_of net) → AreNew net (nodes ++ new ∷ []) (k + 1)
new-more net nodes k new old site state = record {
  count = let n = old.count in grind (arith, common_steps, n);
  sites = with-new (λ v node. site_in node ≡ site_of net v) nodes k old.count new old.sites site;
  states = with-new (λ v node. state_of node ≡ default_node (ranges_of net)) nodes k old.count new old.states state;
}

pub new-are : (net : Network) (nodes : List NodeView) → AreNew net nodes net.nodes → AreNodesOf net nodes
new-are net nodes all = record { all_nodes = all.count; sites = all.sites }

new-state : (net : Network) (nodes : List NodeView) → AreNew net nodes net.nodes → (v : ℕ) → states_of net nodes v ≡ default_node (ranges_of net)
new-state net nodes all v =
    let cases : (v < net.nodes) ⊎ (net.nodes ≤ v) = grind arith in
    elim cases [
      | inl less ↦ let s = all.states v less in grind (arith, common_steps, s, less)
      | inr past ↦ grind (arith, common_steps, past)
    ]

pub new-states : (net : Network) (nodes : List NodeView) → AreNew net nodes net.nodes → states_of net nodes ≡ λ v. default_node (ranges_of net)
new-states net nodes all = fun_ext (λ v. new-state net nodes all v)

-- new nodes and empty links are the world at its start
pub new-world : (net : Network) (nodes : List NodeView) (links : LinksView) (pairs : ℕ) → links.net ≡ net → spare_pairs links ≡ pairs → under_way links ≡ (λ u v. [])
    → states_of net nodes ≡ (λ v. default_node (ranges_of net)) → world_of (record { nodes = nodes; links = links }) ≡ world_with_spares net pairs
new-world net nodes links pairs same spare empty states =
    ap (λ n. record { net = n; spares = spare_pairs links; node = states_of n nodes; link = under_way links }) same
    ∙ ap (λ k. record { net = net; spares = k; node = states_of net nodes; link = under_way links }) spare
    ∙ ap (λ f. record { net = net; spares = pairs; node = f; link = under_way links }) states
    ∙ ap (λ f. record { net = net; spares = pairs; node = λ v. default_node (ranges_of net); link = f }) empty
