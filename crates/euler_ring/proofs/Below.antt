-- What is below a node on the tour: it follows stop by stop, along edges of the tree, and does not
-- come to the root.
use Rattle.std.proofs.Common.{◌≡◌, ◌≢◌, ℕ, ◌+◌, ◌<◌, ◌≤◌, zero, suc, true, List, [], ◌∷◌, Some, None, inl, inr, refl, sym, ◌∙◌, ap, subst, arith, IsTrue}
use Rattle.std.specs.List.{AllByRecursion}
use Rattle.std.proofs.lemmas.Bool.{cases_eq}
use Rattle.std.proofs.lemmas.Bool.Decides.{nat_tests}
use Rattle.topology.specs.Network.{Network, are_joined}
use Rattle.topology.specs.Tree.{distance_of, parent_of}
use Rattle.topology.specs.Laws.{IsTree}
use Rattle.euler_ring.specs.Cycle.{is_on, next_after}
use Rattle.euler_ring.specs.Tour.{Stop, children_of, in_order_after, through, tour_below}
use Rattle.euler_ring.specs.Laws.{true_neighbours, IsTreeEdge, stop_after, IsStopOf}
use Rattle.euler_ring.proofs.Circle.{IsCycle}
use Rattle.euler_ring.proofs.Chains.{IsChain, chain-append, in-left, in-right, in-either}
use Rattle.euler_ring.proofs.Trees as trees

-- the stop goes along an edge of the tree
abbrev pub IsEdge : Network → Stop → Type 0
IsEdge net s = IsTreeEdge net s.0 s.1

-- through the children leads to each of them, through what is below it, and back
pub through-has : (below : ℕ → ℕ → List Stop) (v : ℕ) (cs : List ℕ) (c : ℕ) → is_on cs c ≡ true →
    IsStopOf (through below v cs) (v, c) × IsStopOf (through below v cs) (c, v) × ((s : Stop) → IsStopOf (below c v) s → IsStopOf (through below v cs) s)
through-has below v [] c on = absurd (grind arith)
through-has below v (x ∷ xs) c on = elim (cases_eq x c) [
  | inl e ↦ subst (λ y. IsStopOf (through below v (x ∷ xs)) (v, y) × IsStopOf (through below v (x ∷ xs)) (y, v) × ((s : Stop) → IsStopOf (below y v) s → IsStopOf (through below v (x ∷ xs)) s)) e (
    inl refl,
    inr (in-right (below x v) ((x, v) ∷ through below v xs) (x, v) (inl refl)),
    λ s i. inr (in-left (below x v) ((x, v) ∷ through below v xs) s i),
  )
  | inr ne ↦ (
      let has = through-has below v xs c (grind (arith, nat_tests)) in
      let on' : (s : Stop) → IsStopOf (through below v xs) s → IsStopOf (through below v (x ∷ xs)) s = λ s i. inr (in-right (below x v) ((x, v) ∷ through below v xs) s (inr i)) in
      (on' (v, c) has.0, on' (c, v) has.1, λ s i. on' s (has.2 s i)))
]

module _ (net : Network) (tree : IsTree net) (back : (v w : ℕ) → are_joined net.edges v w ≡ are_joined net.edges w v)
    (nodes : (v w : ℕ) → IsTrue (are_joined net.edges v w) → (v < net.nodes) × (w < net.nodes)) where
  pub parent_node : (v p : ℕ) → parent_of net v ≡ Some p → v < net.nodes
  parent_node v p e = (nodes v p (tree.parent_joined v p e)).0

  -- ---- each stop follows from the one before

  pub through-chain : (depth v p m : ℕ) (cs : List ℕ) → net.nodes ≤ distance_of net v + suc depth → AllByRecursion (λ c. parent_of net c ≡ Some v) cs → IsCycle (next_after (true_neighbours net v)) m cs p →
      ((v p : ℕ) → net.nodes ≤ distance_of net v + depth → parent_of net v ≡ Some p → IsChain (stop_after net) (p, v) (tour_below depth net v p) (v, p)) →
      IsChain (stop_after net) (m, v) (through (tour_below depth net) v cs) (v, p)
  through-chain depth v p m [] l ps cycle each = ap (λ x. (v, x)) cycle
  through-chain depth v p m (c ∷ cs) l ps cycle each = (
    ap (λ x. (v, x)) cycle.0,
    chain-append (stop_after net) (v, c) (tour_below depth net c v) (c, v) (through (tour_below depth net) v cs) (v, p)
        (each c v (omega (arith, l, tree.parent_nearer c v ps.0)) ps.0) (through-chain depth v p c cs l ps.1 cycle.1 each),
  )

  pub below-chain : (depth v p : ℕ) → net.nodes ≤ distance_of net v + depth → parent_of net v ≡ Some p → IsChain (stop_after net) (p, v) (tour_below depth net v p) (v, p)
  below-chain zero v p l e = absurd (omega (arith, l, tree.below v (parent_node v p e)))
  below-chain (suc depth) v p l e =
      through-chain depth v p p (in_order_after p (children_of net v)) l (trees.order-children net tree back nodes v p) (trees.round-node net tree back nodes v p e)
      (λ u m k f. below-chain depth u m k f)

  -- ---- every stop is an edge of the tree

  pub through-edges : (depth v : ℕ) (cs : List ℕ) → AllByRecursion (λ c. parent_of net c ≡ Some v) cs → ((u m : ℕ) (s : Stop) → IsStopOf (tour_below depth net u m) s → IsEdge net s) →
      (s : Stop) → IsStopOf (through (tour_below depth net) v cs) s → IsEdge net s
  through-edges depth v [] ps each s i = absurd i
  through-edges depth v (c ∷ cs) ps each s (inl e) = subst (IsEdge net) (sym e) (inr ps.0)
  through-edges depth v (c ∷ cs) ps each s (inr i) = elim (in-either (tour_below depth net c v) ((c, v) ∷ through (tour_below depth net) v cs) s i) [
    | inl below ↦ each c v s below
    | inr (inl e) ↦ subst (IsEdge net) (sym e) (inl ps.0)
    | inr (inr rest) ↦ through-edges depth v cs ps.1 each s rest
  ]

  pub below-edges : (depth v p : ℕ) (s : Stop) → IsStopOf (tour_below depth net v p) s → IsEdge net s
  below-edges zero v p s i = absurd i
  below-edges (suc depth) v p s i = through-edges depth v (in_order_after p (children_of net v)) (trees.order-children net tree back nodes v p) (λ u m t k. below-edges depth u m t k) s i

  -- ---- below a node other than the root the tour does not come to the root

  pub not_root : (v c : ℕ) → parent_of net c ≡ Some v → c ≢ net.root
  not_root v c e = λ is. let none : None ≡ Some v = sym tree.root_parent ∙ ap (parent_of net) (sym is) ∙ e in cc

  through-off-root : (depth v : ℕ) (cs : List ℕ) → v ≢ net.root → AllByRecursion (λ c. parent_of net c ≡ Some v) cs →
      ((u m : ℕ) (s : Stop) → u ≢ net.root → IsStopOf (tour_below depth net u m) s → s.1 ≢ net.root) → (s : Stop) → IsStopOf (through (tour_below depth net) v cs) s → s.1 ≢ net.root
  through-off-root depth v [] ne ps each s i = absurd i
  through-off-root depth v (c ∷ cs) ne ps each s (inl e) = subst (λ x. x.1 ≢ net.root) (sym e) (not_root v c ps.0)
  through-off-root depth v (c ∷ cs) ne ps each s (inr i) = elim (in-either (tour_below depth net c v) ((c, v) ∷ through (tour_below depth net) v cs) s i) [
    | inl below ↦ each c v s (not_root v c ps.0) below
    | inr (inl e) ↦ subst (λ x. x.1 ≢ net.root) (sym e) ne
    | inr (inr rest) ↦ through-off-root depth v cs ne ps.1 each s rest
  ]

  pub below-off-root : (depth v p : ℕ) (s : Stop) → v ≢ net.root → IsStopOf (tour_below depth net v p) s → s.1 ≢ net.root
  below-off-root zero v p s ne i = absurd i
  below-off-root (suc depth) v p s ne i =
      through-off-root depth v (in_order_after p (children_of net v)) ne (trees.order-children net tree back nodes v p) (λ u m t k j. below-off-root depth u m t k j) s i
