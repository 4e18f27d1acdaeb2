-- True parents: one for each node but the root, and the computed distance and parent are the true
-- ones.
use Rattle.std.proofs.Common.{◌≡◌, ◌≢◌, ◌∙◌, ℕ, zero, suc, ◌+◌, ◌<◌, ◌≤◌, Bool, true, false, ◌&&◌, List, [], ◌∷◌, ◌++◌, length, refl, sym, ap, arith, length-append, ltb, IsTrue, inl, inr, ◌⊎◌}
use Rattle.std.specs.Prelude.{Option, Some, None, is_some, unwrap_or, ◌↔◌}
use Rattle.std.specs.List.{find, filter, range_with_len}
use Rattle.std.proofs.lemmas.Bool.{cases_Bool, false≢true}
use Rattle.std.proofs.lemmas.Bool.Decides.{nat_tests}
use Rattle.topology.specs.Network.{Network, are_joined, IsWalk, IsDistance, IsNearer, IsTrueParent, IsAcceptedNetwork}
use Rattle.topology.specs.Tree.{distance_of, is_one_nearer, parent_of}
use Rattle.topology.specs.Laws.{IsTree}
use Rattle.topology.proofs.SearchByLevels.{IsWalk-push}
use Rattle.topology.proofs.OneRound.{same_or_not}
use Rattle.topology.proofs.Joined.{joined_back, joined_below}
use Rattle.topology.proofs.Nearer.{has_nearer}
use Rattle.topology.proofs.LaidOut.{one_distance, root_distance}
use Rattle.topology.proofs.Reached.{least_is_distance, each_distance, reaches_by}

-- only the root's distance is 0
at_no_steps : (net : Network) (v : ℕ) (ws : List ℕ) → IsWalk net.edges net.root ws v → length ws ≡ 0 → v ≡ net.root
at_no_steps net v [] walk long = sym walk
at_no_steps net v (w ∷ ws) walk long = absurd (omega arith)

pub only_root : (net : Network) (v : ℕ) → IsDistance net v 0 → v ≡ net.root
only_root net v dist = let (ws, walk, long) = dist.walk in at_no_steps net v ws walk long

-- the distances of joined nodes differ by at most 1
pub joined_distances : (net : Network) (v w d e : ℕ) → IsTrue (are_joined net.edges v w) → IsDistance net v d → IsDistance net w e → d ≤ e + 1
joined_distances net v w d e joined a b =
    let (ws, walk, long) = b.walk in
    omega (arith, long, length-append ws (v ∷ []), a.least (ws ++ v ∷ []) (IsWalk-push net.edges net.root ws w v walk (rw (joined_back net.edges w v) joined)))

-- the computed distance is the distance
pub distance_is : (net : Network) (v : ℕ) → IsAcceptedNetwork net → v < net.nodes → IsDistance net v (distance_of net v)
distance_is net v ok within =
    let (d, below, dist) = each_distance net v ok within in
    let (ws, walk, long) = dist.walk in
    least_is_distance net net.nodes d v ok below (reaches_by net ok.limits.edges_in d v ws walk long)

pub distance_is_one : (net : Network) (v d : ℕ) → IsAcceptedNetwork net → v < net.nodes → (distance_of net v ≡ d) ↔ IsDistance net v d
distance_is_one net v d ok within = (λ e. rw e at (distance_is net v ok within), λ dist. one_distance net v _ _ (distance_is net v ok within) dist)

one_more : (net : Network) (v w : ℕ) → IsTrue (is_one_nearer net v w) → distance_of net v ≡ distance_of net w + 1
one_more net v w near = grind (arith, nat_tests)

-- one nearer by the computed distances is one nearer
pub nearer_is : (net : Network) (v w : ℕ) → IsAcceptedNetwork net → v < net.nodes → w < net.nodes → IsTrue (are_joined net.edges v w) → is_one_nearer net v w ≡ true → IsNearer net v w
nearer_is net v w ok v_in w_in joined near =
    let one = one_more net v w near in
    record { joined = joined; distance = distance_of net w; of_nearer = distance_is net w ok w_in; of_node = rw one at (distance_is net v ok v_in) }

pub nearer_test : (net : Network) (v w : ℕ) → IsAcceptedNetwork net → v < net.nodes → w < net.nodes → IsNearer net v w → is_one_nearer net v w ≡ true
nearer_test net v w ok v_in w_in near =
    let a = one_distance net v _ _ (distance_is net v ok v_in) near.of_node in
    let b = one_distance net w _ _ (distance_is net w ok w_in) near.of_nearer in
    grind (arith, nat_tests)

none_or_some : (o : Option ℕ) → (o ≡ None) ⊎ ((x : ℕ) × (o ≡ Some x))
none_or_some None = inl refl
none_or_some (Some x) = inr (x, refl)

and_both : (a b : Bool) → (a && b) ≡ true → IsTrue a × IsTrue b
and_both true true h = (refl, refl)
and_both true false h = absurd (false≢true h)
and_both false b h = absurd (false≢true h)

-- the least number of n from a on that passes a test
record IsFirst (test : ℕ → Bool) (a n found : ℕ) : Type 0 where
  pub passes : test found ≡ true
  pub high : found < a + n
  pub smallest : (x : ℕ) → a ≤ x → x < a + n → test x ≡ true → found ≤ x

same_found : (x y : ℕ) → Some x ≡ Some y → x ≡ y
same_found x y e = ap (λ found. unwrap_or found x) e

found_first : (test : ℕ → Bool) (a n found : ℕ) → find test (range_with_len a n) ≡ Some found → IsFirst test a n found
found_first test a zero found h = absurd (false≢true (ap is_some h))
found_first test a (suc n) found h = elim (cases_Bool (test a)) [
  | inl passes ↦
      let is : a ≡ found = same_found a found (rw passes at h) in
      record { passes = rw is at passes; high = omega arith; smallest = λ x low high other. omega arith }
  | inr fails ↦
      let later = found_first test (a + 1) n found (rw fails at h) in
      record {
        passes = later.passes;
        high = omega (arith, later.high);
        smallest = λ x low high other. elim (same_or_not x a) [
          | inl is ↦ absurd (false≢true (sym fails ∙ rw is at other))
          | inr ne ↦ later.smallest x (omega arith) (omega arith) other
        ];
      }
]

finds : (test : ℕ → Bool) (a n x : ℕ) → a ≤ x → x < a + n → test x ≡ true → (found : ℕ) × (find test (range_with_len a n) ≡ Some found)
finds test a zero x low high passes = absurd (omega arith)
finds test a (suc n) x low high passes = elim (cases_Bool (test a)) [
  | inl now ↦ (a, rw now refl)
  | inr fails ↦ elim (same_or_not x a) [
    | inl is ↦ absurd (false≢true (sym fails ∙ rw is at passes))
    | inr ne ↦ let (found, e) = finds test (a + 1) n x (omega arith) (omega arith) passes in (found, rw fails e)
  ]
]

find-filter : (q p : ℕ → Bool) (xs : List ℕ) → find p (filter q xs) ≡ find (λ x. q x && p x) xs
find-filter q p [] = refl
find-filter q p (x ∷ xs) = elim (cases_Bool (q x)) [
  | inl passes ↦ rw (passes, find-filter q p xs) refl
  | inr fails ↦ rw (fails, find-filter q p xs) refl
]

-- the computed parent is the true parent
first_parent : (net : Network) (v p : ℕ) → parent_of net v ≡ Some p → IsFirst (λ w. are_joined net.edges v w && is_one_nearer net v w) 0 net.nodes p
first_parent net v p h = found_first _ 0 net.nodes p (sym (find-filter (are_joined net.edges v) (is_one_nearer net v) (range_with_len 0 net.nodes)) ∙ h)

pub parent_is : (net : Network) (v p : ℕ) → IsAcceptedNetwork net → v < net.nodes → parent_of net v ≡ Some p → IsTrueParent net v p
parent_is net v p ok within h =
    let first = first_parent net v p h in
    let both = and_both _ _ first.passes in
    record {
      nearer = nearer_is net v p ok within (omega (arith, first.high)) both.0 both.1;
      smallest = λ q near.
          let q_in = joined_below net.edges net.nodes q v ok.limits.edges_in (rw (joined_back net.edges q v) near.joined) in
          first.smallest q (omega arith) (omega arith) (rw (near.joined, nearer_test net v q ok within q_in near) refl);
    }

pub finds_parent : (net : Network) (v : ℕ) → IsAcceptedNetwork net → v < net.nodes → v ≢ net.root → (p : ℕ) × (parent_of net v ≡ Some p)
finds_parent net v ok within other =
    let (q, q_in, near) = has_nearer net v _ ok (distance_is net v ok within) other in
    let (p, e) = finds (λ w. are_joined net.edges v w && is_one_nearer net v w) 0 net.nodes q (omega arith) (omega arith) (rw (near.joined, nearer_test net v q ok within q_in near) refl) in
    (p, find-filter (are_joined net.edges v) (is_one_nearer net v) (range_with_len 0 net.nodes) ∙ e)

pub each_nearer : (net : Network) (v : ℕ) → IsAcceptedNetwork net → v < net.nodes → v ≢ net.root → (p : ℕ) × (p < net.nodes) × IsNearer net v p
each_nearer net v ok within other = has_nearer net v _ ok (distance_is net v ok within) other

-- a node has at most one true parent, and the root has none
pub one_parent : (net : Network) (v p q : ℕ) → IsTrueParent net v p → IsTrueParent net v q → p ≡ q
one_parent net v p q a b = omega (arith, a.smallest q b.nearer, b.smallest p a.nearer)

pub no_root_parent : (net : Network) (p : ℕ) → IsTrueParent net net.root p → ⊥
no_root_parent net p h = absurd (omega (arith, one_distance net net.root _ _ (root_distance net) h.nearer.of_node))

pub each_parent : (net : Network) (v : ℕ) → IsAcceptedNetwork net → v < net.nodes → v ≢ net.root → (p : ℕ) × (p < net.nodes) × IsTrueParent net v p
each_parent net v ok within other =
    let (p, e) = finds_parent net v ok within other in
    (p, omega (arith, (first_parent net v p e).high), parent_is net v p ok within e)

pub parent_is_one : (net : Network) (v p : ℕ) → IsAcceptedNetwork net → v < net.nodes → (parent_of net v ≡ Some p) ↔ IsTrueParent net v p
parent_is_one net v p ok within = (
  parent_is net v p ok within,
  λ h. elim (same_or_not v net.root) [
    | inl is ↦ absurd (no_root_parent net p (rw is at h))
    | inr other ↦
        let (q, e) = finds_parent net v ok within other in
        rw (one_parent net v p q h (parent_is net v q ok within e)) e
  ],
)

pub root_has_none : (net : Network) → IsAcceptedNetwork net → parent_of net net.root ≡ None
root_has_none net ok = elim (none_or_some (parent_of net net.root)) [
  | inl e ↦ e
  | inr h ↦ absurd (no_root_parent net h.0 (parent_is net net.root h.0 ok ok.limits.root_in h.1))
]

-- what the code finds is what the definitions compute
pub distance_computed : (net : Network) (v d : ℕ) → IsAcceptedNetwork net → v < net.nodes → IsDistance net v d → d ≡ distance_of net v
distance_computed net v d ok within dist = one_distance net v _ _ dist (distance_is net v ok within)

pub first_nearer : (net : Network) (v p : ℕ) → IsNearer net v p → ((q : ℕ) → q < p → ¬ IsNearer net v q) → IsTrueParent net v p
first_nearer net v p near none_less = record {
  nearer = near;
  smallest = λ q other. elim (cases_Bool (ltb q p)) [
    | inl less ↦ absurd (none_less q (grind (arith, nat_tests)) other)
    | inr not_less ↦ grind (arith, nat_tests)
  ];
}

pub parent_computed : (net : Network) (v p : ℕ) → IsAcceptedNetwork net → v < net.nodes → IsTrueParent net v p → Some p ≡ parent_of net v
parent_computed net v p ok within is = sym ((parent_is_one net v p ok within).1 is)

pub no_parent_computed : (net : Network) (v : ℕ) → IsAcceptedNetwork net → v < net.nodes → ((q : ℕ) → q < net.nodes → ¬ IsNearer net v q) → None ≡ parent_of net v
no_parent_computed net v ok within none = elim (none_or_some (parent_of net v)) [
  | inl e ↦ sym e
  | inr h ↦ absurd (none h.0 (omega (arith, (first_parent net v h.0 h.1).high)) (parent_is net v h.0 ok within h.1).nearer)
]

-- what the tree is known by
pub is_tree : (net : Network) → IsAcceptedNetwork net → IsTree net
is_tree net ok = record {
  below = λ v within. let (d, less, dist) = each_distance net v ok within in omega (arith, one_distance net v _ _ (distance_is net v ok within) dist);
  root = one_distance net net.root _ _ (distance_is net net.root ok ok.limits.root_in) (root_distance net);
  only_root = λ v within at_root. only_root net v (rw at_root at (distance_is net v ok within));
  joined = λ v w joined.
      let v_in = joined_below net.edges net.nodes v w ok.limits.edges_in joined in
      let w_in = joined_below net.edges net.nodes w v ok.limits.edges_in (rw (joined_back net.edges w v) joined) in
      joined_distances net v w _ _ joined (distance_is net v ok v_in) (distance_is net w ok w_in);
  root_parent = root_has_none net ok;
  parent = λ v within other. finds_parent net v ok within other;
  parent_joined = λ v p h. (and_both _ _ (first_parent net v p h).passes).0;
  parent_nearer = λ v p h. one_more net v p (and_both _ _ (first_parent net v p h).passes).1;
  parent_smallest = λ v p q h joined near.
      let q_in = joined_below net.edges net.nodes q v ok.limits.edges_in (rw (joined_back net.edges q v) joined) in
      let test : is_one_nearer net v q ≡ true = grind (arith, nat_tests) in
      (first_parent net v p h).smallest q (omega arith) (omega arith) (rw (joined, test) refl);
}
