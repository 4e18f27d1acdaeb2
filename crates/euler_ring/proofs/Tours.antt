-- The tour of the true tree: it goes round, along each edge of the tree once in each direction.
use Rattle.std.proofs.Common.{◌≡◌, ◌≢◌, ℕ, ◌+◌, ◌-◌, ◌*◌, ◌<◌, ◌≤◌, zero, suc, true, false, List, [], ◌∷◌, ◌++◌, length, Some, inl, inr, refl, sym, ◌∙◌, ap, subst, arith, IsTrue}
use Rattle.std.specs.Prelude.{◌↔◌}
use Rattle.std.specs.List.{AllByRecursion}
use Rattle.std.proofs.lemmas.Bool.{cases_eq}
use Rattle.std.proofs.lemmas.Bool.Decides.{nat_tests}
use Rattle.topology.specs.Network.{Network, are_joined}
use Rattle.topology.specs.Tree.{distance_of, parent_of}
use Rattle.topology.specs.Laws.{IsTree}
use Rattle.euler_ring.specs.Cycle.{is_on, next_after, source_for, lowest}
use Rattle.euler_ring.specs.Tour.{Stop, children_of, in_order_after, through, tour_below, tour_of_children, tour}
use Rattle.euler_ring.specs.Laws.{true_neighbours, IsTreeEdge, stop_after, IsStopOf, NoStopTwice, IsRound}
use Rattle.euler_ring.proofs.Ascending.{IsFrom, not_on}
use Rattle.euler_ring.proofs.Circle.{source_of_next}
use Rattle.euler_ring.proofs.Chains.{IsChain, chain-append, goes_to, in-left, in-right, in-either, none_twice}
use Rattle.euler_ring.proofs.Lengths.{edges_length}
use Rattle.euler_ring.proofs.Below.{IsEdge, through-has, parent_node, through-chain, below-chain, through-edges, below-edges, not_root, below-off-root}
use Rattle.euler_ring.proofs.Trees as trees

module _ (net : Network) (tree : IsTree net) (back : (v w : ℕ) → are_joined net.edges v w ≡ are_joined net.edges w v)
    (nodes : (v w : ℕ) → IsTrue (are_joined net.edges v w) → (v < net.nodes) × (w < net.nodes)) (two : 2 ≤ net.nodes) (root_in : net.root < net.nodes) where
  -- the tour comes from t to the root at its beginning alone
  through-without : (t : ℕ) (cs : List ℕ) → t ≢ net.root → AllByRecursion (λ c. parent_of net c ≡ Some net.root) cs → is_on cs t ≡ false → ¬ IsStopOf (through (tour_below net.nodes net) net.root cs) (t, net.root)
  through-without t [] ne ps off i = absurd i
  through-without t (c ∷ cs) ne ps off (inl e) = ne (ap (λ x. x.0) e)
  through-without t (c ∷ cs) ne ps off (inr i) = elim (in-either (tour_below net.nodes net c net.root) ((c, net.root) ∷ through (tour_below net.nodes net) net.root cs) (t, net.root) i) [
    | inl below ↦ below-off-root net tree back nodes net.nodes c net.root (t, net.root) (not_root net tree back nodes net.root c ps.0) below refl
    | inr (inl e) ↦ (let same : t ≡ c = ap (λ x. x.0) e in absurd (grind (arith, nat_tests)))
    | inr (inr rest) ↦ through-without t cs ne ps.1 (grind (arith, nat_tests)) rest
  ]

  -- ---- the stops follow injectively

  flipped : (v w : ℕ) → IsTreeEdge net v w → IsTreeEdge net w v
  flipped v w (inl e) = inr e
  flipped v w (inr e) = inl e

  came_from : (s : Stop) → IsEdge net s → source_for (true_neighbours net s.1) (next_after (true_neighbours net s.1) s.0) ≡ s.0
  came_from s e = source_of_next (true_neighbours net s.1) s.0 (trees.true-from net tree back nodes s.1) (trees.of-edge net tree back nodes s.1 s.0 (flipped s.0 s.1 e))

  one_before : (a b : Stop) → IsEdge net a → IsEdge net b → stop_after net a ≡ stop_after net b → a ≡ b
  one_before a b ea eb same =
      let here : a.1 ≡ b.1 = ap (λ x. x.0) same in
      let onward : next_after (true_neighbours net a.1) a.0 ≡ next_after (true_neighbours net b.1) b.0 = ap (λ x. x.1) same in
      let from : a.0 ≡ b.0 = sym (came_from a ea) ∙ ap (source_for (true_neighbours net a.1)) onward ∙ ap (λ v. source_for (true_neighbours net v) (next_after (true_neighbours net b.1) b.0)) here ∙ came_from b eb in
      rw (from, here)

  -- ---- the whole tour

  -- a node at a distance has a parent one nearer
  one_up : (k v : ℕ) → v < net.nodes → distance_of net v ≡ suc k → (p : ℕ) × (parent_of net v ≡ Some p) × (p < net.nodes) × (distance_of net p ≡ k)
  one_up k v l d =
      let ne : v ≢ net.root = λ e. absurd (omega (arith, d, ap (distance_of net) e, tree.root)) in
      let (p, e) = tree.parent v l ne in
      (p, e, (nodes v p (tree.parent_joined v p e)).1, omega (arith, d, tree.parent_nearer v p e))

  -- so the root has a child
  root_child : (k v : ℕ) → v < net.nodes → distance_of net v ≡ suc k → (c : ℕ) × (parent_of net c ≡ Some net.root)
  root_child zero v l d = let (p, e, inside, z) = one_up zero v l d in (v, subst (λ x. parent_of net v ≡ Some x) (tree.only_root p inside z) e)
  root_child (suc k) v l d = let (p, e, inside, z) = one_up (suc k) v l d in root_child k p inside z

  some_child : (c : ℕ) × (parent_of net c ≡ Some net.root)
  some_child = elim (cases_eq net.root 0) [
    | inl e ↦ at 1 (omega (arith, two)) (omega (arith, e))
    | inr ne ↦ at 0 (omega (arith, two)) (λ e. ne (sym e))
  ] where
    at : (v : ℕ) → v < net.nodes → v ≢ net.root → (c : ℕ) × (parent_of net c ≡ Some net.root)
    at v l ne =
        let far : distance_of net v ≢ 0 = λ z. ne (tree.only_root v l z) in
        let e : distance_of net v ≡ suc (distance_of net v - 1) = omega (arith, far) in
        root_child (distance_of net v - 1) v l e

  -- the root's children, with the first apart
  children_split : (t : ℕ) × (others : List ℕ) × (children_of net net.root ≡ t ∷ others)
  children_split =
      let (c, e) = some_child in
      go (children_of net net.root) (trees.of-child net tree back nodes net.root c e) refl where
        go : (cs : List ℕ) → is_on cs some_child.0 ≡ true → children_of net net.root ≡ cs → (t : ℕ) × (others : List ℕ) × (children_of net net.root ≡ t ∷ others)
        go [] on e = absurd (grind arith)
        go (t ∷ others) on e = (t, others, e)

  module _ (t : ℕ) (others : List ℕ) (cs : children_of net net.root ≡ t ∷ others) where
    abbrev pub rest : List Stop
    rest = through (tour_below net.nodes net) net.root others ++ (net.root, t) ∷ tour_below net.nodes net t net.root

    tour-is : tour net ≡ (t, net.root) ∷ rest
    tour-is = ap (tour_of_children net) cs

    child-parent : (c : ℕ) → is_on (t ∷ others) c ≡ true → parent_of net c ≡ Some net.root
    child-parent c on = trees.child-of net tree back nodes net.root c (ap (λ xs. is_on xs c) cs ∙ on)

    first : parent_of net t ≡ Some net.root
    first = child-parent t (grind (arith, nat_tests))

    the_others : AllByRecursion (λ c. parent_of net c ≡ Some net.root) others
    the_others = trees.all_on _ others (λ c on. child-parent c (grind (arith, nat_tests)))

    -- it goes round
    tour-chain : IsChain (stop_after net) (t, net.root) rest (t, net.root)
    tour-chain =
        let far = tree.below net.root root_in in
        chain-append (stop_after net) (t, net.root) (through (tour_below net.nodes net) net.root others) (net.root, t) (tour_below net.nodes net t net.root) (t, net.root)
        (through-chain net tree back nodes net.nodes net.root t t others (omega (arith, tree.root)) the_others (trees.round-root net tree back nodes t others cs) (λ v p l e. below-chain net tree back nodes net.nodes v p (omega arith) e))
        (below-chain net tree back nodes net.nodes t net.root (omega arith) first)

    pub round : IsRound net
    round = record {
      child = t;
      rest = rest;
      begins = tour-is;
      special = ap lowest (trees.root-same net tree back nodes ∙ cs);
      round = rw tour-is (goes_to net (t, net.root) rest (t, net.root) tour-chain);
    }

    -- each stop is an edge
    pub tour-edges : (s : Stop) → IsStopOf ((t, net.root) ∷ rest) s → IsEdge net s
    tour-edges s (inl e) = subst (IsEdge net) (sym e) (inl first)
    tour-edges s (inr i) = elim (in-either (through (tour_below net.nodes net) net.root others) ((net.root, t) ∷ tour_below net.nodes net t net.root) s i) [
      | inl along ↦ through-edges net tree back nodes net.nodes net.root others the_others (λ u m x k. below-edges net tree back nodes net.nodes u m x k) s along
      | inr (inl e) ↦ subst (IsEdge net) (sym e) (inr first)
      | inr (inr below) ↦ below-edges net tree back nodes net.nodes t net.root s below
    ]

    -- and no stop stands twice
    first-once : ¬ IsStopOf rest (t, net.root)
    first-once i = elim (in-either (through (tour_below net.nodes net) net.root others) ((net.root, t) ∷ tour_below net.nodes net t net.root) (t, net.root) i) [
      | inl along ↦ (
          let from = subst (IsFrom 0) cs (trees.children-from net tree back nodes net.root) in
          through-without t others (not_root net tree back nodes net.root t first) the_others (not_on (t + 1) others t from.1 (omega arith)) along)
      | inr (inl e) ↦ not_root net tree back nodes net.root t first (ap (λ x. x.0) e)
      | inr (inr below) ↦ below-off-root net tree back nodes net.nodes t net.root (t, net.root) (not_root net tree back nodes net.root t first) below refl
    ]

    pub tour-none-twice : NoStopTwice ((t, net.root) ∷ rest)
    tour-none-twice = none_twice (stop_after net) (IsEdge net) one_before (t, net.root) rest (t, net.root) tour-chain tour-edges first-once

    -- ---- each edge is a stop

    -- the tour comes from p to its child v, goes through all that is below v, and back to p
    record IsWithin (v p : ℕ) : Type 0 where
      depth : ℕ
      deep : net.nodes ≤ distance_of net v + depth
      down : IsStopOf ((t, net.root) ∷ rest) (p, v)
      up : IsStopOf ((t, net.root) ∷ rest) (v, p)
      all : (s : Stop) → IsStopOf (tour_below depth net v p) s → IsStopOf ((t, net.root) ∷ rest) s

    within-root : (v : ℕ) → parent_of net v ≡ Some net.root → IsWithin v net.root
    within-root v e =
        let on : is_on (t ∷ others) v ≡ true = ap (λ xs. is_on xs v) (sym cs) ∙ trees.of-child net tree back nodes net.root v e in
        elim (cases_eq t v) [
          | inl is ↦ subst (λ x. IsWithin x net.root) is (record {
            depth = net.nodes;
            deep = omega arith;
            down = inr (in-right (through (tour_below net.nodes net) net.root others) _ _ (inl refl));
            up = inl refl;
            all = λ s i. inr (in-right (through (tour_below net.nodes net) net.root others) _ _ (inr i));
          })
          | inr ne ↦ (
              let has = through-has (tour_below net.nodes net) net.root others v (grind (arith, nat_tests)) in
              record {
                depth = net.nodes;
                deep = omega arith;
                down = inr (in-left (through (tour_below net.nodes net) net.root others) _ _ has.0);
                up = inr (in-left (through (tour_below net.nodes net) net.root others) _ _ has.1);
                all = λ s i. inr (in-left (through (tour_below net.nodes net) net.root others) _ _ (has.2 s i));
              })
        ]

    -- from a node to its child
    within-child : (depth p g v : ℕ) → net.nodes ≤ distance_of net p + depth → ((s : Stop) → IsStopOf (tour_below depth net p g) s → IsStopOf ((t, net.root) ∷ rest) s) →
        parent_of net p ≡ Some g → parent_of net v ≡ Some p → IsWithin v p
    within-child zero p g v deep all up down = absurd (omega (arith, deep, tree.below p (parent_node net tree back nodes p g up)))
    within-child (suc depth) p g v deep all up down =
        let one = tree.parent_nearer v p down in
        let two' = tree.parent_nearer p g up in
        let ne : v ≢ g = λ e. absurd (omega (arith, one, two', ap (distance_of net) e)) in
        let has = through-has (tour_below depth net) p (in_order_after g (children_of net p)) v (trees.child-in-order net tree back nodes p g v down ne) in
        record { depth = depth; deep = omega (arith, deep, one); down = all (p, v) has.0; up = all (v, p) has.1; all = λ s i. all s (has.2 s i) }

    within : (k v p : ℕ) → distance_of net v ≡ suc k → parent_of net v ≡ Some p → IsWithin v p
    within zero v p d e =
        let is : net.root ≡ p = sym (tree.only_root p (nodes v p (tree.parent_joined v p e)).1 (omega (arith, d, tree.parent_nearer v p e))) in
        subst (IsWithin v) is (within-root v (subst (λ x. parent_of net v ≡ Some x) (sym is) e))
    within (suc k) v p d e =
        let far : distance_of net p ≡ suc k = omega (arith, d, tree.parent_nearer v p e) in
        let (g, up, inside, z) = one_up k p (nodes v p (tree.parent_joined v p e)).1 far in
        let h = within k p g far up in
        within-child h.depth p g v h.deep h.all up e

    pub has-edge : (v p : ℕ) → parent_of net v ≡ Some p → IsStopOf ((t, net.root) ∷ rest) (p, v) × IsStopOf ((t, net.root) ∷ rest) (v, p)
    has-edge v p e =
        let h = within (distance_of net p) v p (omega (arith, tree.parent_nearer v p e)) e in
        (h.down, h.up)

    pub has-each : (a b : ℕ) → IsTreeEdge net a b → IsStopOf ((t, net.root) ∷ rest) (a, b)
    has-each a b (inl e) = (has-edge a b e).1
    has-each a b (inr e) = (has-edge b a e).0

  -- ---- the laws

  pub goes_round : IsRound net
  goes_round = let (t, others, cs) = children_split in round t others cs

  pub each_edge : (a b : ℕ) → IsStopOf (tour net) (a, b) ↔ IsTreeEdge net a b
  each_edge a b = let (t, others, cs) = children_split in rw (tour-is t others cs) (tour-edges t others cs (a, b), has-each t others cs a b)

  pub no_stop_twice : NoStopTwice (tour net)
  no_stop_twice = let (t, others, cs) = children_split in rw (tour-is t others cs) (tour-none-twice t others cs)

  pub two_stops_each : length (tour net) ≡ 2 * (net.nodes - 1)
  two_stops_each = edges_length net tree nodes root_in (tour net) no_stop_twice (λ s i. (each_edge s.0 s.1).0 i) (λ a b e. (each_edge a b).1 e)

  pub comes_to_each : (v : ℕ) → v < net.nodes → (a : ℕ) × IsStopOf (tour net) (a, v)
  comes_to_each v l = elim (cases_eq v net.root) [
    | inl e ↦ (let (c, is) = some_child in (c, (each_edge c v).1 (inl (subst (λ x. parent_of net c ≡ Some x) (sym e) is))))
    | inr ne ↦ (let (p, is) = tree.parent v l ne in (p, (each_edge p v).1 (inr is)))
  ]
