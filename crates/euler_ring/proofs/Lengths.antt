-- How long a list of stops is that has each edge of a tree once in each direction.
use Rattle.std.proofs.Common.{◌≡◌, ◌≢◌, ℕ, ◌+◌, ◌-◌, ◌*◌, ◌<◌, ◌≤◌, ◌==◌, not, zero, suc, true, List, [], ◌∷◌, length, Some, None, ◌⊎◌, inl, inr, refl, sym, ◌∙◌, ap, subst, arith, IsTrue}
use Rattle.std.specs.Prelude.{filter, unwrap_or}
use Rattle.std.specs.List.{range_with_len}
use Rattle.std.proofs.lemmas.Bool.{cases_eq}
use Rattle.std.proofs.lemmas.Bool.Decides.{nat_tests}
use Rattle.topology.specs.Network.{Network, are_joined}
use Rattle.topology.specs.Tree.{distance_of, parent_of}
use Rattle.topology.specs.Laws.{IsTree}
use Rattle.euler_ring.specs.Cycle.{is_on}
use Rattle.euler_ring.specs.Tour.{Stop}
use Rattle.euler_ring.specs.Laws.{IsTreeEdge, IsStopOf, NoStopTwice}
use Rattle.euler_ring.proofs.Ascending.{IsFrom, from-filter, from-range, on-kept, not_on}

-- ---- a list without repetition is no longer than one that has all its stops

without : (x : Stop) (ys : List Stop) → IsStopOf ys x → (zs : List Stop) × (length ys ≡ suc (length zs)) × ((s : Stop) → IsStopOf ys s → s ≢ x → IsStopOf zs s)
without x [] i = absurd i
without x (y ∷ ys) (inl e) = (ys, refl, λ s i ne. elim i [ inl is ↦ absurd (ne (is ∙ sym e)) | inr there ↦ there ])
without x (y ∷ ys) (inr i) =
    let (zs, long, keep) = without x ys i in
    (y ∷ zs, omega (arith, long), λ s j ne. elim j [ inl is ↦ inl is | inr there ↦ inr (keep s there ne) ])

pub no_longer : (xs ys : List Stop) → NoStopTwice xs → ((s : Stop) → IsStopOf xs s → IsStopOf ys s) → length xs ≤ length ys
no_longer [] ys once all = omega arith
no_longer (x ∷ xs) ys once all =
    let (zs, long, keep) = without x ys (all x (inl refl)) in
    omega (arith, long, no_longer xs zs once.1 (λ s i. keep s (all s (inr i)) (λ e. once.0 (subst (IsStopOf xs) e i))))

-- ---- all but one of a range

more_below : (a n root : ℕ) → root < a → length (filter (λ v. not (v == root)) (range_with_len a n)) ≡ n
more_below a zero root l = refl
more_below a (suc n) root l = let rest = more_below (a + 1) n root (omega arith) in let ne : a ≢ root = omega arith in grind (arith, nat_tests)

all_but_one : (a n root : ℕ) → a ≤ root → root < a + n → length (filter (λ v. not (v == root)) (range_with_len a n)) + 1 ≡ n
all_but_one a zero root l h = absurd (omega (arith, l, h))
all_but_one a (suc n) root l h = elim (cases_eq a root) [
  | inl e ↦ (let rest = more_below (a + 1) n root (omega (arith, e)) in grind (arith, nat_tests))
  | inr ne ↦ (let rest = all_but_one (a + 1) n root (omega (arith, l, ne)) (omega (arith, h)) in grind (arith, nat_tests))
]

-- ---- each edge in both directions

module _ (net : Network) (tree : IsTree net) (nodes : (v w : ℕ) → IsTrue (are_joined net.edges v w) → (v < net.nodes) × (w < net.nodes)) (root_in : net.root < net.nodes) where
  abbrev parent_id : ℕ → ℕ
  parent_id v = unwrap_or (parent_of net v) 0

  -- the edges from each node of a list to its parent, both ways
  abbrev both_ways : List ℕ → List Stop
  both_ways [] = []
  both_ways (v ∷ vs) = (parent_id v, v) ∷ (v, parent_id v) ∷ both_ways vs

  twice_as_long : (vs : List ℕ) → length (both_ways vs) ≡ 2 * length vs
  twice_as_long [] = refl
  twice_as_long (v ∷ vs) = omega (arith, twice_as_long vs)

  abbrev nonroot : List ℕ
  nonroot = filter (λ v. not (v == net.root)) (range_with_len 0 net.nodes)

  -- v is no root
  abbrev HasParent : ℕ → Type 0
  HasParent v = parent_of net v ≡ Some (parent_id v)

  has_parent : (v : ℕ) → is_on nonroot v ≡ true → HasParent v
  has_parent v on =
      let kept = on-kept (λ v. not (v == net.root)) net.nodes v in
      let inside : v < net.nodes = grind (arith, nat_tests) in
      let ne : v ≢ net.root = λ e. absurd (grind (arith, nat_tests)) in
      let (p, e) = tree.parent v inside ne in
      rw e refl

  is_nonroot : (v p : ℕ) → parent_of net v ≡ Some p → is_on nonroot v ≡ true
  is_nonroot v p e =
      let kept = on-kept (λ v. not (v == net.root)) net.nodes v in
      let inside = (nodes v p (tree.parent_joined v p e)).0 in
      let ne : v ≢ net.root = λ is. let none : None ≡ Some p = sym tree.root_parent ∙ ap (parent_of net) (sym is) ∙ e in cc in
      grind (arith, nat_tests)

  -- what is on both ways
  from_both : (vs : List ℕ) (s : Stop) → IsStopOf (both_ways vs) s → (w : ℕ) × (is_on vs w ≡ true) × ((s ≡ (parent_id w, w)) ⊎ (s ≡ (w, parent_id w)))
  from_both [] s i = absurd i
  from_both (v ∷ vs) s (inl e) = (v, grind (arith, nat_tests), inl e)
  from_both (v ∷ vs) s (inr (inl e)) = (v, grind (arith, nat_tests), inr e)
  from_both (v ∷ vs) s (inr (inr i)) = let (w, on, is) = from_both vs s i in (w, grind (arith, nat_tests), is)

  to_both : (vs : List ℕ) (w : ℕ) → is_on vs w ≡ true → IsStopOf (both_ways vs) (parent_id w, w) × IsStopOf (both_ways vs) (w, parent_id w)
  to_both [] w on = absurd (grind arith)
  to_both (v ∷ vs) w on = elim (cases_eq v w) [
    | inl e ↦ subst (λ x. IsStopOf (both_ways (v ∷ vs)) (parent_id x, x) × IsStopOf (both_ways (v ∷ vs)) (x, parent_id x)) e (inl refl, inr (inl refl))
    | inr ne ↦ (let h = to_both vs w (grind (arith, nat_tests)) in (inr (inr h.0), inr (inr h.1)))
  ]

  -- a parent's parent is another
  no_pair : (v w : ℕ) → HasParent v → HasParent w → parent_id v ≡ w → parent_id w ≢ v
  no_pair v w hv hw e = λ f. absurd (omega (arith, tree.parent_nearer v (parent_id v) hv, tree.parent_nearer w (parent_id w) hw, ap (distance_of net) e, ap (distance_of net) f))

  once : (low : ℕ) (vs : List ℕ) → IsFrom low vs → ((v : ℕ) → is_on vs v ≡ true → HasParent v) → NoStopTwice (both_ways vs)
  once low [] from has = tt
  once low (v ∷ vs) from has =
      let mine = has v (grind (arith, nat_tests)) in
      let off = not_on (v + 1) vs v from.1 (omega arith) in
      let others = λ (w : ℕ) (on : is_on vs w ≡ true). has w (grind (arith, nat_tests)) in
      let ne : (w : ℕ) → is_on vs w ≡ true → ¬ (v ≡ w) = λ w on e. (let same = ap (λ x. is_on vs x) e in grind arith) in (
        (λ i. elim i [
          | inl e ↦ no_pair v v mine mine (ap (λ x. x.0) e) (ap (λ x. x.0) e)
          | inr there ↦ (let (w, on, is) = from_both vs (parent_id v, v) there in elim is [
            | inl e ↦ ne w on (ap (λ x. x.1) e)
            | inr e ↦ no_pair v w mine (others w on) (ap (λ x. x.0) e) (sym (ap (λ x. x.1) e))
          ])
        ]),
        (
          (λ i. let (w, on, is) = from_both vs (v, parent_id v) i in elim is [
            | inl e ↦ no_pair v w mine (others w on) (ap (λ x. x.1) e) (sym (ap (λ x. x.0) e))
            | inr e ↦ ne w on (ap (λ x. x.0) e)
          ]),
          once (v + 1) vs from.1 others,
        ),
      )

  -- a list that has exactly the edges, none twice, has two for each node but the root
  pub edges_length : (xs : List Stop) → NoStopTwice xs → ((s : Stop) → IsStopOf xs s → IsTreeEdge net s.0 s.1) → ((a b : ℕ) → IsTreeEdge net a b → IsStopOf xs (a, b)) →
      length xs ≡ 2 * (net.nodes - 1)
  edges_length xs apart edges each =
      let up = no_longer xs (both_ways nonroot) apart (λ s i. to_edge s (edges s i)) in
      let down = no_longer (both_ways nonroot) xs (once 0 nonroot (from-filter _ 0 _ (from-range 0 net.nodes)) has_parent) (λ s i. of_both s i) in
      omega (arith, up, down, twice_as_long nonroot, all_but_one 0 net.nodes net.root (omega arith) (omega (arith, root_in))) where
        to_edge : (s : Stop) → IsTreeEdge net s.0 s.1 → IsStopOf (both_ways nonroot) s
        to_edge s (inl e) =
            let on = is_nonroot s.0 s.1 e in
            let is : parent_id s.0 ≡ s.1 = rw e refl in
            subst (λ x. IsStopOf (both_ways nonroot) (s.0, x)) is (to_both nonroot s.0 on).1
        to_edge s (inr e) =
            let on = is_nonroot s.1 s.0 e in
            let is : parent_id s.1 ≡ s.0 = rw e refl in
            subst (λ x. IsStopOf (both_ways nonroot) (x, s.1)) is (to_both nonroot s.1 on).0

        of_both : (s : Stop) → IsStopOf (both_ways nonroot) s → IsStopOf xs s
        of_both s i = let (w, on, is) = from_both nonroot s i in elim is [
          | inl e ↦ subst (IsStopOf xs) (sym e) (each (parent_id w) w (inr (has_parent w on)))
          | inr e ↦ subst (IsStopOf xs) (sym e) (each w (parent_id w) (inl (has_parent w on)))
        ]
