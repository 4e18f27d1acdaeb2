-- Both ends of an edge that joins or goes take over their new neighbours.
use Rattle.std.proofs.Common.{◌≡◌, ◌≢◌, ◌∙◌, sym, ap, ℕ, ◌<◌, ◌≤◌, ◌⊎◌, inl, inr, arith, List}
use Rattle.std.proofs.Math.Path.{fun_ext}
use Rattle.std.proofs.lemmas.Grind.{common_steps}
use Rattle.topology.specs.At.{at}
use Rattle.topology.specs.Network.{Edge, Network, neighbours_of}
use Rattle.topology.specs.Ranges.{ranges_of}
use Rattle.run_model.specs.node_core.Rewire.{rewired}
use Rattle.run_model.specs.node_core.Site.{Site, site_of}
use Rattle.run_model.specs.node_core.State.{LocalState}
use Rattle.run_model.specs.node_core.View.{NodeView, site_in, state_of}
use Rattle.configuration.specs.ConfigurationView.{AreNodesOf, node_at, states_of}
use Rattle.configuration.specs.Rewired.{IsRewired}

-- a node that knows its site knows its site in a network with other edges, except for its
-- neighbours
pub other-edges : (net : Network) (edges : List Edge) (nodes : List NodeView) (v : ℕ) → AreNodesOf net nodes → v < net.nodes
    → record (site_in (node_at nodes v)) { neighbours = neighbours_of (record net { edges = edges }) v } ≡ site_of (record net { edges = edges }) v
other-edges net edges nodes v are vn = ap {A = Site} {B = Site} (λ s. record s { neighbours = neighbours_of (record net { edges = edges }) v }) (are.sites v vn)

-- the node w afterwards, if it is an end of the edge
abbrev pub ended : Network → List Edge → List NodeView → ℕ → LocalState
ended net edges nodes w = rewired (ranges_of net) (neighbours_of net w) (neighbours_of (record net { edges = edges }) w) (states_of net nodes w)

-- The ends u and v of an edge that has joined or gone have taken over their neighbours in the
-- network with these edges; no other node has changed.
pub record AreRewired (net : Network) (edges : List Edge) (u v : ℕ) (old new : List NodeView) : Type 0 where
  pub nodes : AreNodesOf (record net { edges = edges }) new
  pub states : states_of (record net { edges = edges }) new ≡ at (at (states_of net old) u (ended net edges old u)) v (ended net edges old v)

module _ (net : Network) (edges : List Edge) (u v : ℕ) (un : u < net.nodes) (vn : v < net.nodes) (no-loop : u ≢ v)
    (others : (w : ℕ) → w ≢ u → w ≢ v → neighbours_of (record net { edges = edges }) w ≡ neighbours_of net w)
    (nodes one two : List NodeView) (are : AreNodesOf net nodes) where
  abbrev pub changed : Network
  changed = record net { edges = edges }

  module _ (first : IsRewired changed nodes u one) where
    -- the second end has not changed yet
    pub second-site : record (site_in (node_at one v)) { neighbours = neighbours_of changed v } ≡ site_of changed v
    second-site = ap {A = NodeView} {B = Site} (λ n. record (site_in n) { neighbours = neighbours_of changed v }) (first.others v (λ same. no-loop (sym same))) ∙ other-edges net edges nodes v are vn

    module _ (second : IsRewired changed one v two) where
      where-is : (w : ℕ) → ((w ≡ u) × (w ≢ v)) ⊎ ((w ≡ v) ⊎ ((w ≢ u) × (w ≢ v)))
      where-is w = grind (arith, common_steps, no-loop)

      site-one : (w : ℕ) → w < net.nodes → site_in (node_at two w) ≡ site_of changed w
      site-one w wn = elim (where-is w) [
        | inl p ↦ ap site_in (second.others w p.1) ∙ ap (λ k. site_in (node_at one k)) p.0 ∙ first.site ∙ ap (site_of changed) (sym p.0)
        | inr (inl p) ↦ ap (λ k. site_in (node_at two k)) p ∙ second.site ∙ ap (site_of changed) (sym p)
        | inr (inr p) ↦ ap site_in (second.others w p.1 ∙ first.others w p.0) ∙ are.sites w wn
            ∙ ap {A = List ℕ} {B = Site} (λ ns. record (site_of net w) { neighbours = ns }) (sym (others w p.0 p.1))
      ]

      now-nodes : AreNodesOf changed two
      now-nodes = record { all_nodes = second.all_nodes ∙ first.all_nodes ∙ are.all_nodes; sites = site-one }

      abbrev end-state : ℕ → LocalState
      end-state = ended net edges nodes

      of-site : Site → ℕ → LocalState → LocalState
      of-site s w state = rewired s.ranges s.neighbours (neighbours_of changed w) state

      there : (w : ℕ) → w < net.nodes → states_of net nodes w ≡ state_of (node_at nodes w)
      there w wn = grind (arith, common_steps, wn)

      rewired-is : (w : ℕ) → w < net.nodes
          → rewired (site_in (node_at nodes w)).ranges (site_in (node_at nodes w)).neighbours (neighbours_of changed w) (state_of (node_at nodes w)) ≡ end-state w
      rewired-is w wn =
          ap (λ s. rewired s.ranges s.neighbours (neighbours_of changed w) (state_of (node_at nodes w))) (are.sites w wn)
          ∙ ap (rewired (ranges_of net) (neighbours_of net w) (neighbours_of changed w)) (sym (there w wn))

      first-state : state_of (node_at two u) ≡ end-state u
      first-state = ap state_of (second.others u no-loop) ∙ first.state ∙ rewired-is u un

      second-state : state_of (node_at two v) ≡ end-state v
      second-state =
          second.state
          ∙ ap (λ n. rewired (site_in n).ranges (site_in n).neighbours (neighbours_of changed v) (state_of n)) (first.others v (λ same. no-loop (sym same)))
          ∙ rewired-is v vn

      state-there : (w : ℕ) → w < net.nodes → states_of changed two w ≡ state_of (node_at two w)
      state-there w wn = grind (arith, common_steps, wn)

      after-at : (f : ℕ → LocalState) (a b : ℕ) (x y : LocalState) (w : ℕ) → w ≢ a → w ≢ b → at (at f a x) b y w ≡ f w
      after-at f a b x y w na nb = grind (arith, common_steps, na, nb)

      at-first : (f : ℕ → LocalState) (a b : ℕ) (x y : LocalState) (w : ℕ) → w ≡ a → w ≢ b → at (at f a x) b y w ≡ x
      at-first f a b x y w same nb = grind (arith, common_steps, same, nb)

      at-second : (f : ℕ → LocalState) (a b : ℕ) (x y : LocalState) (w : ℕ) → w ≡ b → at (at f a x) b y w ≡ y
      at-second f a b x y w same = grind (arith, common_steps, same)

      past-is : (w : ℕ) → net.nodes ≤ w → states_of changed two w ≡ states_of net nodes w
      past-is w past = grind (arith, common_steps, past)

      state-one : (w : ℕ) → states_of changed two w ≡ at (at (states_of net nodes) u (end-state u)) v (end-state v) w
      state-one w =
          let cases : (w < net.nodes) ⊎ (net.nodes ≤ w) = grind arith in
          elim cases [
            | inr past ↦ past-is w past
                ∙ sym (after-at (states_of net nodes) u v (end-state u) (end-state v) w (λ same. absurd (omega (arith, past, same, un))) (λ same. absurd (omega (arith, past, same, vn))))
            | inl wn ↦ elim (where-is w) [
              | inl p ↦ state-there w wn ∙ ap (λ k. state_of (node_at two k)) p.0 ∙ first-state
                  ∙ sym (at-first (states_of net nodes) u v (end-state u) (end-state v) w p.0 p.1)
              | inr (inl p) ↦ state-there w wn ∙ ap (λ k. state_of (node_at two k)) p ∙ second-state
                  ∙ sym (at-second (states_of net nodes) u v (end-state u) (end-state v) w p)
              | inr (inr p) ↦ state-there w wn ∙ ap state_of (second.others w p.1 ∙ first.others w p.0) ∙ sym (there w wn)
                  ∙ sym (after-at (states_of net nodes) u v (end-state u) (end-state v) w p.0 p.1)
            ]
          ]

      now-states : states_of changed two ≡ at (at (states_of net nodes) u (end-state u)) v (end-state v)
      now-states = fun_ext state-one

      pub are-rewired : AreRewired net edges u v nodes two
      are-rewired = record { nodes = now-nodes; states = now-states }
