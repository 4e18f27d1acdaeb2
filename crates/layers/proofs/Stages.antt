-- The tree node by node and neighbour by neighbour, and its stages.
use Rattle.std.proofs.Common.{◌≡◌, ◌∙◌, ◌↔◌, ap, sym, refl, subst, ℕ, ◌+◌, ◌<◌, ◌≤◌, Bool, true, false, IsTrue, List, length, take, get_or, arith}
use Rattle.std.specs.List.{All}
use Rattle.std.proofs.lemmas.Bool.Decides.{nat_tests}
use Rattle.std.proofs.lemmas.Grind.{common_steps}
use Rattle.std.proofs.lemmas.List.Elements.{All-contains, All-more, Contains-get_or}
use Rattle.topology.specs.Network.{Network, IsAcceptedNetwork, are_joined, neighbours_of}
use Rattle.topology.specs.Laws.{NeighboursAreJoined, JoinedAreNodes}
use Rattle.topology.specs.Tree.{distance_of}
use Rattle.configuration.specs.run_model.World.{World}
use Rattle.configuration.specs.run_model.Tree.{IsTreeAtStage, IsTreeReached, IsTrueOf}
use Rattle.configuration.specs.run_model.node_core.bfs_tree.Stage.{is_of_stage}
use Rattle.topology.specs.Eccentricity.{eccentricity_of}
use Rattle.layers.specs.Stages.{IsNodeAtStage, AreLinksAtStage, IsStageOf, IsNodeTrue, AreLinksTrue}

-- ---- neighbour by neighbour

whole : (i : ℕ) (xs : List ℕ) → length xs ≤ i → take i xs ≡ xs
whole i xs end = grind (arith, common_steps)

-- a loop goes through the neighbours of v, which it has read from a network that is `net`
module _ {items : List ℕ} {seen net : Network} (v : ℕ) (same : seen ≡ net) (read : items ≡ neighbours_of seen v) where
  are : items ≡ neighbours_of net v
  are = read ∙ ap (λ n. neighbours_of n v) same

  module _ (joined : NeighboursAreJoined) {i : ℕ} (within : i < length items) where
    there : i < length (neighbours_of net v)
    there = rw are at within

    joined-there : (get_or items i 0 < net.nodes) × IsTrue (are_joined net.edges v (get_or items i 0))
    joined-there = rw are ((joined net v (get_or (neighbours_of net v) i 0)).0 (Contains-get_or (neighbours_of net v) i 0 there))

    -- the neighbour that it is at is a node
    pub neighbour-in : get_or items i 0 < net.nodes
    neighbour-in = joined-there.0

    module _ (P : ℕ → Type 0) {holds : Bool} (decides : IsTrue holds ↔ P (get_or items i 0)) where
      -- what fails of that one does not hold of each
      pub one-fails : holds ≡ false → IsTrue false ↔ ((u : ℕ) → IsTrue (are_joined net.edges v u) → P u)
      one-fails fails = (λ wrong. absurd cc, λ each. let clash = sym (decides.1 (each (get_or items i 0) joined-there.1)) ∙ fails in absurd cc)

      -- what holds of that one, too, holds of one more
      pub one-more : IsTrue holds → All P (take i (neighbours_of net v)) → All P (take (i + 1) (neighbours_of net v))
      one-more is before = All-more P (neighbours_of net v) i 0 there before (subst (λ xs. P (get_or xs i 0)) are (decides.0 is))

  -- what holds of the first neighbours holds of each, if these are all
  pub each-joined : NeighboursAreJoined → JoinedAreNodes → IsAcceptedNetwork seen → (P : ℕ → Type 0) {i : ℕ} → length items ≤ i
      → All P (take i (neighbours_of net v)) → IsTrue true ↔ ((u : ℕ) → IsTrue (are_joined net.edges v u) → P u)
  each-joined joined ends accepted P {i} end all =
      let near = neighbours_of net v in
      let known : IsAcceptedNetwork net = subst (λ n. IsAcceptedNetwork n) same accepted in
      let all-near : All P near = subst (λ xs. All P xs) (whole i near (omega (arith, end, ap length are))) all in
      (λ holds u joins. All-contains P near u all-near ((joined net v u).1 ((ends net v u known joins).1, joins)), λ each. refl)

-- ---- node by node

module _ (ends : JoinedAreNodes) (w : World) (accepted : IsAcceptedNetwork w.net) where
  pub stage-from : (k : ℕ) → ((v : ℕ) → v < w.net.nodes → IsNodeAtStage k w v) → IsTreeAtStage k w
  stage-from k each = record {
    own = λ v below. (each v below).0;
    staged = λ v u are. ((each v (ends w.net v u accepted are).0).1 u are).0;
    copied = λ v u are. ((each v (ends w.net v u accepted are).0).1 u are).1;
  }

  pub reached-from : ((v : ℕ) → v < w.net.nodes → IsNodeTrue w v) → IsTreeReached w
  reached-from each = record {
    distance = λ v below. (each v below).0;
    parent = λ v below. (each v below).1;
    staged = λ v u are. ((each v (ends w.net v u accepted are).0).2 u are).0;
    copied = λ v u are. ((each v (ends w.net v u accepted are).0).2 u are).1;
  }

pub stage-at : (w : World) (k : ℕ) → IsTreeAtStage k w → (v : ℕ) → v < w.net.nodes → IsNodeAtStage k w v
stage-at w k tree v below = (tree.own v below, λ u are. (tree.staged v u are, tree.copied v u are))

pub reached-at : (w : World) → IsTreeReached w → (v : ℕ) → v < w.net.nodes → IsNodeTrue w v
reached-at w tree v below = (tree.distance v below, tree.parent v below, λ u are. (tree.staged v u are, tree.copied v u are))

-- ---- stages

of-lower : (j k real written : ℕ) → j ≤ k → IsTrue (is_of_stage k real written) → IsTrue (is_of_stage j real written)
of-lower j k real written less is = grind (arith, common_steps, nat_tests)

of-zero : (real written : ℕ) → IsTrue (is_of_stage 0 real written)
of-zero real written = grind (arith, common_steps, nat_tests)

-- each stage is one of those below it, too
pub lower-stage : (w : World) (j k : ℕ) → j ≤ k → IsTreeAtStage k w → IsTreeAtStage j w
lower-stage w j k less tree = record {
  own = λ v below. of-lower j k (distance_of w.net v) _ less (tree.own v below);
  staged = λ v u are. of-lower j k (distance_of w.net v) _ less (tree.staged v u are);
  copied = λ v u are. of-lower j k (distance_of w.net v) _ less (tree.copied v u are);
}

-- each tree is at stage 0
pub zero-stage : (w : World) → IsTreeAtStage 0 w
zero-stage w = record {
  own = λ v below. of-zero (distance_of w.net v) _;
  staged = λ v u are. of-zero (distance_of w.net v) _;
  copied = λ v u are. of-zero (distance_of w.net v) _;
}

-- a stage at which the tree is, and is not at the next, is the one that is meant
pub stage-stands : (w : World) (k last : ℕ) → last ≡ eccentricity_of w.net + 1 → IsTreeAtStage k w → k ≤ last → (k < last → IsTreeAtStage (k + 1) w → ⊥)
    → IsStageOf w k
stage-stands w k last is tree within fails = record {
  reached = tree;
  within = omega (arith, is, within);
  greatest = λ next above most at. fails (omega (arith, is, above, most)) (lower-stage w (k + 1) next (omega (arith, above)) at);
}
