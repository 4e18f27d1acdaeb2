-- What a changed node does to all nodes.
use Rattle.std.proofs.Common.{◌≡◌, ◌∙◌, sym, ap, subst, ℕ, ◌<◌, ◌⊎◌, inl, inr, arith, List, length, None, IsTrue, Contains, slice_set, slice_index_or}
use Rattle.std.proofs.Math.Path.{fun_ext}
use Rattle.std.proofs.lemmas.Grind.{common_steps}
use Rattle.std.proofs.lemmas.List.{length-set}
use Rattle.topology.specs.At.{at}
use Rattle.topology.specs.Network.{Network, are_joined, neighbours_of}
use Rattle.run_model.specs.node_core.Site.{site_of}
use Rattle.run_model.specs.node_core.View.{NodeView, site_in, state_of}
use Rattle.run_model.specs.Step.{link_fault}
use Rattle.configuration.specs.ConfigurationView.{AreNodesOf, ConfigurationView, no_node, node_at, states_of, world_of}

-- the node v is at place p, and is `old`
pub record IsNodeAt (net : Network) (nodes : List NodeView) (v p : ℕ) (old : NodeView) : Type 0 where
  pub nodes_are : AreNodesOf net nodes
  pub in_net : v < net.nodes
  pub place : p ≡ v
  pub value : old ≡ slice_index_or nodes p old

-- the node is where it was found
pub found-there : {w seen : ConfigurationView} {v p : ℕ} {old : NodeView} {T : Type 0} → w ≡ seen → AreNodesOf w.links.net w.nodes
    → (p ≡ v) × (v < (world_of seen).net.nodes) × T → old ≡ slice_index_or w.nodes p old → IsNodeAt w.links.net w.nodes v p old
found-there {w} {seen} {v} {p} {old} same are found value =
    record { nodes_are = are; in_net = rw (← same) at found.1; place = found.0; value = value }

module _ (net : Network) (nodes : List NodeView) (v p : ℕ) (old : NodeView) (h : IsNodeAt net nodes v p old) where
  there : v < length nodes
  there = subst (λ k. v < k) (sym h.nodes_are.all_nodes) h.in_net

  default-free : (xs : List NodeView) (i : ℕ) (a b : NodeView) → i < length xs → slice_index_or xs i a ≡ slice_index_or xs i b
  default-free xs i a b within = grind (arith, common_steps)

  pub node-is : node_at nodes v ≡ old
  node-is = default-free nodes v no_node old there ∙ sym (h.value ∙ ap (λ k. slice_index_or nodes k old) h.place)

  pub site-is : site_in old ≡ site_of net v
  site-is = ap site_in (sym node-is) ∙ h.nodes_are.sites v h.in_net

  pub state-is : states_of net nodes v ≡ state_of old
  state-is = let n = node-is in let b = h.in_net in grind (arith, common_steps, n, b)

  module _ (new : NodeView) where
    site-one : (i : ℕ) → i < net.nodes → site_in new ≡ site_in old → site_in (node_at (slice_set nodes v new) i) ≡ site_of net i
    site-one i b same =
        let cases : (i ≡ v) ⊎ ((i < v) ⊎ (v < i)) = grind arith in
        let old-site = h.nodes_are.sites i b in
        let w = there in
        elim cases [
          | inl e ↦ subst (λ i. site_in (node_at (slice_set nodes v new) i) ≡ site_of net i) (sym e)
              (ap site_in (put-there w) ∙ same ∙ site-is)
          | inr other ↦ ap site_in (put-elsewhere i other) ∙ old-site
        ]
      where
        put-there : v < length nodes → node_at (slice_set nodes v new) v ≡ new
        put-there w = grind (arith, common_steps)

        put-elsewhere : (i : ℕ) → (i < v) ⊎ (v < i) → node_at (slice_set nodes v new) i ≡ node_at nodes i
        put-elsewhere i other = grind (arith, common_steps)

    pub now-nodes : site_in new ≡ site_in old → AreNodesOf net (slice_set nodes p new)
    now-nodes same = subst (λ k. AreNodesOf net (slice_set nodes k new)) (sym h.place) (record {
      all_nodes = rw (length-set nodes v new) h.nodes_are.all_nodes;
      sites = λ i b. site-one i b same;
    })

    state-one : (i : ℕ) → states_of net (slice_set nodes v new) i ≡ at (states_of net nodes) v (state_of new) i
    state-one i = let w = there in let b = h.in_net in grind (arith, common_steps, w, b)

    pub now-states : states_of net (slice_set nodes p new) ≡ at (states_of net nodes) v (state_of new)
    now-states = subst (λ k. states_of net (slice_set nodes k new) ≡ at (states_of net nodes) v (state_of new)) (sym h.place) (fun_ext state-one)

-- the node v, which is at place p and is `old`, has a link to its neighbour u
pub record IsPortAt (w : ConfigurationView) (v u p : ℕ) (old : NodeView) : Type 0 where
  pub here : IsNodeAt w.links.net w.nodes v p old
  pub near : Contains (site_in old).neighbours u
  pub found : link_fault (world_of w) v u ≡ None

-- the port is where its link was found
pub port-at : {w seen : ConfigurationView} {v u p : ℕ} {old : NodeView} {T : Type 0} → w ≡ seen → AreNodesOf w.links.net w.nodes
    → (v < (world_of seen).net.nodes) × (u < (world_of seen).net.nodes) × IsTrue (are_joined (world_of seen).net.edges v u) × (link_fault (world_of seen) v u ≡ None)
    → Contains (neighbours_of (world_of seen).net v) u × T → p ≡ v → old ≡ slice_index_or w.nodes p old → IsPortAt w v u p old
port-at {w} {seen} {v} {u} {p} {old} same are ok near place value =
    let here : IsNodeAt w.links.net w.nodes v p old = record { nodes_are = are; in_net = rw (← same) at ok.0; place = place; value = value } in
    let beside : Contains (neighbours_of w.links.net v) u = rw (← same) at near.0 in
    record {
      here = here;
      near = subst (λ s. Contains s.neighbours u) (sym (site-is _ _ _ _ _ here)) beside;
      found = rw (← same) at ok.3;
    }
