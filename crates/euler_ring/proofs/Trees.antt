-- The true tree from each of its nodes: its children and its tree neighbours, and their order they
-- stand.
use Rattle.std.proofs.Common.{◌≡◌, ◌≢◌, ℕ, ◌+◌, ◌<◌, ◌&&◌, ◌||◌, Bool, true, false, List, [], ◌∷◌, ◌++◌, Option, Some, None, inl, inr, refl, sym, ◌∙◌, ap, subst, arith, IsTrue, nat_lt}
use Rattle.std.specs.Prelude.{filter}
use Rattle.std.specs.List.{AllByRecursion, range_with_len}
use Rattle.std.proofs.lemmas.Bool.{cases_eq, cases_lt, cases_Bool}
use Rattle.std.proofs.lemmas.Bool.Decides.{nat_tests}
use Rattle.std.proofs.lemmas.List.{append-nil}
use Rattle.topology.specs.Network.{Network, are_joined, neighbours_of}
use Rattle.topology.specs.Tree.{parent_of}
use Rattle.topology.specs.Laws.{IsTree}
use Rattle.euler_ring.specs.Cycle.{is_named, is_on, is_tree_neighbour, tree_neighbours, above, below, next_after}
use Rattle.euler_ring.specs.Tour.{children_of, in_order_after}
use Rattle.euler_ring.specs.Laws.{true_neighbours, IsTreeEdge}
use Rattle.euler_ring.proofs.Ascending.{IsFrom, from-filter, from-range, on-filter, on-kept, not_on}
use Rattle.euler_ring.proofs.Circle.{IsCycle, cut_at, above-cut, below-cut, round_from}

-- ---- lists by what is on them

-- two ascending lists with the same items are one
pub same_list : (low : ℕ) (xs ys : List ℕ) → IsFrom low xs → IsFrom low ys → ((w : ℕ) → is_on xs w ≡ is_on ys w) → xs ≡ ys
same_list low [] [] h k same = refl
same_list low [] (y ∷ ys) h k same = absurd (let e = same y in grind (arith, nat_tests))
same_list low (x ∷ xs) [] h k same = absurd (let e = same x in grind (arith, nat_tests))
same_list low (x ∷ xs) (y ∷ ys) h k same = elim (cases_lt x y) [
  | inl less ↦ absurd (let e = same x in let off = not_on y (y ∷ ys) x (omega arith, k.1) less in grind (arith, nat_tests))
  | inr more ↦ (elim (cases_eq x y) [
    | inr ne ↦ absurd (let e = same y in let off = not_on x (x ∷ xs) y (omega arith, h.1) (omega (arith, more, ne)) in grind (arith, nat_tests))
    | inl e ↦ (
        let rest = same_list (x + 1) xs ys h.1 (subst (λ z. IsFrom (z + 1) ys) (sym e) k.1) (λ w. elim (cases_eq x w) [
          | inl is ↦ not_on (x + 1) xs w h.1 (omega (arith, is)) ∙ sym (not_on (y + 1) ys w k.1 (omega (arith, is, e)))
          | inr ne ↦ (let f = same w in grind (arith, nat_tests))
        ]) in
        rw (e, rest) refl)
  ])
]

-- what holds of each id that is on a list
pub all_on : (P : ℕ → Type 0) (xs : List ℕ) → ((w : ℕ) → is_on xs w ≡ true → P w) → AllByRecursion P xs
all_on P [] f = tt
all_on P (x ∷ xs) f = (f x (grind (arith, nat_tests)), all_on P xs (λ w on. f w (grind (arith, nat_tests))))

pub on-append : (xs ys : List ℕ) (w : ℕ) → is_on (xs ++ ys) w ≡ (is_on xs w || is_on ys w)
on-append [] ys w = refl
on-append (x ∷ xs) ys w = let rest = on-append xs ys w in grind (arith, nat_tests)

-- ---- parents

pub named : (o : Option ℕ) (v : ℕ) → is_named o v ≡ true → o ≡ Some v
named None v e = absurd (grind arith)
named (Some p) v e = grind (arith, nat_tests)

pub is-named : (v : ℕ) → is_named (Some v) v ≡ true
is-named v = grind (arith, nat_tests)

not-named : (o : Option ℕ) (v : ℕ) → o ≢ Some v → is_named o v ≡ false
not-named None v ne = refl
not-named (Some p) v ne = let m : p ≢ v = λ e. ne (ap Some e) in grind (arith, nat_tests)

module _ (net : Network) (tree : IsTree net) (back : (v w : ℕ) → are_joined net.edges v w ≡ are_joined net.edges w v)
    (nodes : (v w : ℕ) → IsTrue (are_joined net.edges v w) → (v < net.nodes) × (w < net.nodes)) where
  -- ---- children

  pub child-of : (v c : ℕ) → is_on (children_of net v) c ≡ true → parent_of net c ≡ Some v
  child-of v c on =
      let kept = on-kept (λ c. is_named (parent_of net c) v) net.nodes c in
      named (parent_of net c) v (grind (arith, nat_tests))

  pub of-child : (v c : ℕ) → parent_of net c ≡ Some v → is_on (children_of net v) c ≡ true
  of-child v c e =
      let kept = on-kept (λ c. is_named (parent_of net c) v) net.nodes c in
      let inside = (nodes c v (tree.parent_joined c v e)).0 in
      let yes' : is_named (parent_of net c) v ≡ true = rw e (is-named v) in
      grind (arith, nat_tests)

  pub children-from : (v : ℕ) → IsFrom 0 (children_of net v)
  children-from v = from-filter (λ c. is_named (parent_of net c) v) 0 (range_with_len 0 net.nodes) (from-range 0 net.nodes)

  -- ---- tree neighbours

  pub true-from : (v : ℕ) → IsFrom 0 (true_neighbours net v)
  true-from v = from-filter _ 0 (neighbours_of net v) (from-filter (are_joined net.edges v) 0 (range_with_len 0 net.nodes) (from-range 0 net.nodes))

  on-true : (v w : ℕ) → is_on (true_neighbours net v) w ≡ ((nat_lt w net.nodes && are_joined net.edges v w) && is_tree_neighbour (parent_of net v) v (parent_of net) w)
  on-true v w =
      on-filter (is_tree_neighbour (parent_of net v) v (parent_of net)) (neighbours_of net v) w
      ∙ ap (λ b. b && is_tree_neighbour (parent_of net v) v (parent_of net) w) (on-kept (are_joined net.edges v) net.nodes w)

  pub edge-of : (v w : ℕ) → is_on (true_neighbours net v) w ≡ true → IsTreeEdge net v w
  edge-of v w on =
      let all = on-true v w in
      elim (cases_Bool (is_named (parent_of net v) w)) [
        | inl up ↦ inl (named (parent_of net v) w up)
        | inr not_up ↦ inr (named (parent_of net w) v (grind (arith, nat_tests)))
      ]

  pub of-edge : (v w : ℕ) → IsTreeEdge net v w → is_on (true_neighbours net v) w ≡ true
  of-edge v w (inl e) =
      let all = on-true v w in
      let j = tree.parent_joined v w e in
      let inside = (nodes v w j).1 in
      let up : is_named (parent_of net v) w ≡ true = rw e (is-named w) in
      grind (arith, nat_tests)
  of-edge v w (inr e) =
      let all = on-true v w in
      let j = tree.parent_joined w v e in
      let same = back v w in
      let inside = (nodes w v j).0 in
      let down : is_named (parent_of net w) v ≡ true = rw e (is-named v) in
      grind (arith, nat_tests)

  -- a tree neighbour is a child, or the parent
  child-or-parent : (v p w : ℕ) → parent_of net v ≡ Some p → w ≢ p → is_on (children_of net v) w ≡ is_on (true_neighbours net v) w
  child-or-parent v p w e ne = elim (cases_Bool (is_on (true_neighbours net v) w)) [
    | inl on ↦ (elim (edge-of v w on) [
      | inl up ↦ absurd (ne (let same : Some p ≡ Some w = sym e ∙ up in cc))
      | inr down ↦ of-child v w down ∙ sym on
    ])
    | inr off ↦ (elim (cases_Bool (is_on (children_of net v) w)) [
      | inl child ↦ absurd (let on = of-edge v w (inr (child-of v w child)) in grind arith)
      | inr none ↦ none ∙ sym off
    ])
  ]

  -- ---- the order after the parent

  above-same : (v p : ℕ) → parent_of net v ≡ Some p → above p (children_of net v) ≡ above p (true_neighbours net v)
  above-same v p e = same_list 0 _ _ (from-filter (nat_lt p) 0 _ (children-from v)) (from-filter (nat_lt p) 0 _ (true-from v)) (λ w.
      let one = on-filter (nat_lt p) (children_of net v) w in
      let two = on-filter (nat_lt p) (true_neighbours net v) w in
      elim (cases_eq w p) [
        | inl is ↦ grind (arith, nat_tests)
        | inr ne ↦ (let same = child-or-parent v p w e ne in rw (one, two, same) refl)
      ])

  below-same : (v p : ℕ) → parent_of net v ≡ Some p → below p (children_of net v) ≡ below p (true_neighbours net v)
  below-same v p e = same_list 0 _ _ (from-filter (λ u. nat_lt u p) 0 _ (children-from v)) (from-filter (λ u. nat_lt u p) 0 _ (true-from v)) (λ w.
      let one = on-filter (λ u. nat_lt u p) (children_of net v) w in
      let two = on-filter (λ u. nat_lt u p) (true_neighbours net v) w in
      elim (cases_eq w p) [
        | inl is ↦ grind (arith, nat_tests)
        | inr ne ↦ (let same = child-or-parent v p w e ne in rw (one, two, same) refl)
      ])

  -- round v, after its parent come its children in the tour's order, and then the parent
  pub round-node : (v p : ℕ) → parent_of net v ≡ Some p → IsCycle (next_after (true_neighbours net v)) p (in_order_after p (children_of net v)) p
  round-node v p e =
      let from = true-from v in
      let (us, ys, cut) = cut_at 0 (true_neighbours net v) p from (of-edge v p (inl e)) in
      let up : above p (children_of net v) ≡ ys = above-same v p e ∙ ap (above p) cut ∙ above-cut 0 us p ys (subst (IsFrom 0) cut from) in
      let down : below p (children_of net v) ≡ us = below-same v p e ∙ ap (below p) cut ∙ below-cut 0 us p ys (subst (IsFrom 0) cut from) in
      rw (up, down) (round_from (true_neighbours net v) us p ys from cut)

  pub order-children : (v p : ℕ) → AllByRecursion (λ c. parent_of net c ≡ Some v) (in_order_after p (children_of net v))
  order-children v p = all_on _ (in_order_after p (children_of net v)) (λ w on. child-of v w (
      let all = on-append (above p (children_of net v)) (below p (children_of net v)) w in
      let one = on-filter (nat_lt p) (children_of net v) w in
      let two = on-filter (λ u. nat_lt u p) (children_of net v) w in
      grind (arith, nat_tests)))

  -- and every child is there
  pub child-in-order : (v p c : ℕ) → parent_of net c ≡ Some v → c ≢ p → is_on (in_order_after p (children_of net v)) c ≡ true
  child-in-order v p c e ne =
      let on = of-child v c e in
      let all = on-append (above p (children_of net v)) (below p (children_of net v)) c in
      let one = on-filter (nat_lt p) (children_of net v) c in
      let two = on-filter (λ u. nat_lt u p) (children_of net v) c in
      grind (arith, nat_tests)

  -- ---- the root

  pub root-same : true_neighbours net net.root ≡ children_of net net.root
  root-same = same_list 0 _ _ (true-from net.root) (children-from net.root) (λ w. elim (cases_Bool (is_on (true_neighbours net net.root) w)) [
    | inl on ↦ (elim (edge-of net.root w on) [
      | inl up ↦ absurd (let none = tree.root_parent in let no' : None ≡ Some w = sym none ∙ up in cc)
      | inr down ↦ on ∙ sym (of-child net.root w down)
    ])
    | inr off ↦ (elim (cases_Bool (is_on (children_of net net.root) w)) [
      | inl child ↦ absurd (let on = of-edge net.root w (inr (child-of net.root w child)) in grind arith)
      | inr none ↦ off ∙ sym none
    ])
  ])

  pub round-root : (t : ℕ) (others : List ℕ) → children_of net net.root ≡ t ∷ others → IsCycle (next_after (true_neighbours net net.root)) t others t
  round-root t others e = let r = round_from (true_neighbours net net.root) [] t others (true-from net.root) (root-same ∙ e) in rw append-nil at r

-- ---- the node's own view

filter-within : (p q among : ℕ → Bool) (xs : List ℕ) → ((w : ℕ) → among w ≡ true → p w ≡ q w) → filter p (filter among xs) ≡ filter q (filter among xs)
filter-within p q among [] same = refl
filter-within p q among (x ∷ xs) same =
    let rest = filter-within p q among xs same in
    elim (cases_Bool (among x)) [
      | inl inside ↦ rw (inside, same x inside, rest) refl
      | inr outside ↦ rw (outside, rest) refl
    ]

-- if a node's own word and its copies are true, so are its tree neighbours
pub same_view : (net : Network) (v : ℕ) (parent : Option ℕ) (copied : ℕ → Option ℕ) → parent ≡ parent_of net v → ((w : ℕ) → IsTrue (are_joined net.edges v w) → copied w ≡ parent_of net w) →
    tree_neighbours parent v (neighbours_of net v) copied ≡ true_neighbours net v
same_view net v parent copied own theirs =
    filter-within (is_tree_neighbour parent v copied) (is_tree_neighbour (parent_of net v) v (parent_of net)) (are_joined net.edges v) (range_with_len 0 net.nodes) (λ w j. rw (own, theirs w j) refl)
