-- Numbers of steps that lead to a node are lengths of walks, and each node of an accepted network
-- has a least one, below the number of nodes.
use Rattle.std.proofs.Common.{◌≡◌, ◌∙◌, ℕ, zero, suc, ◌<◌, ◌≤◌, Bool, true, false, List, [], ◌∷◌, ◌++◌, length, refl, sym, arith, length-append, eqb, inl, inr, ◌⊎◌}
use Rattle.std.specs.List.{All, list_any, IsDistinct, AllByRecursion}
use Rattle.std.proofs.lemmas.Bool.{cases_Bool, false≢true}
use Rattle.std.proofs.lemmas.Bool.Decides.{nat_tests}
use Rattle.std.proofs.lemmas.Map.Steps.{length-le_from_distinct_below}
use Rattle.topology.specs.Network.{Network, IsWalk, IsDistance, IsEdgeBelow, IsAcceptedNetwork}
use Rattle.topology.specs.Tree.{reaches, least_below}
use Rattle.topology.proofs.SearchByLevels.{IsWalk-push}
use Rattle.topology.proofs.OneRound.{same_or_not}
use Rattle.topology.proofs.Joined.{joined_back, joined_below, from_neighbour, to_neighbour}
use Rattle.topology.proofs.Nearer.{last_step, has_nearer}
use Rattle.topology.proofs.LaidOut.{one_distance, root_distance}

-- steps that lead to a node make a walk
pub walk_of : (net : Network) (k v : ℕ) → reaches net k v ≡ true → (ws : List ℕ) × IsWalk net.edges net.root ws v × (length ws ≡ k)
walk_of net zero v h = ([], grind (arith, nat_tests), refl)
walk_of net (suc k) v h =
    let (u, within, joined, before) = from_neighbour net v (reaches net k) h in
    let (ws, walk, long) = walk_of net k u before in
    (ws ++ v ∷ [], IsWalk-push net.edges net.root ws u v walk (rw (joined_back net.edges u v) joined), omega (arith, length-append ws (v ∷ []), long))

-- and a walk is made of steps
pub reaches_by : (net : Network) → All (IsEdgeBelow net.nodes) net.edges → (k v : ℕ) (ws : List ℕ) → IsWalk net.edges net.root ws v → length ws ≡ k → reaches net k v ≡ true
reaches_by net inside zero v [] walk long = grind (arith, nat_tests)
reaches_by net inside (suc k) v (w ∷ ws) walk long =
    let (p, xs, before, joined, same) = last_step net.edges net.root w ws v walk in
    to_neighbour net v p (reaches net k) (joined_below net.edges net.nodes p v inside joined) (rw (joined_back net.edges v p) joined) (reaches_by net inside k p xs before (omega arith))
reaches_by net inside zero v (w ∷ ws) walk long = absurd (omega arith)
reaches_by net inside (suc k) v [] walk long = absurd (omega arith)

-- the least number below a limit passes, if one does
pub least_passes : (limit k : ℕ) (test : ℕ → Bool) → k < limit → test k ≡ true → test (least_below limit test) ≡ true
least_passes zero k test h passes = absurd (omega arith)
least_passes (suc n) zero test h passes = rw passes passes
least_passes (suc n) (suc k) test h passes = elim (cases_Bool (test 0)) [
  | inl now ↦ rw now now
  | inr fails ↦ rw fails (least_passes n k (λ j. test (suc j)) (omega arith) passes)
]

-- and none that passes is less
pub least_at_most : (limit k : ℕ) (test : ℕ → Bool) → test k ≡ true → least_below limit test ≤ k
least_at_most zero k test passes = omega arith
least_at_most (suc n) zero test passes = rw passes (omega arith)
least_at_most (suc n) (suc k) test passes = elim (cases_Bool (test 0)) [
  | inl now ↦ rw now (omega arith)
  | inr fails ↦ rw fails (omega (arith, least_at_most n k (λ j. test (suc j)) passes))
]

-- if steps lead to a node, the least number of them below a limit is its distance
pub least_is_distance : (net : Network) (limit k v : ℕ) → IsAcceptedNetwork net → k < limit → reaches net k v ≡ true → IsDistance net v (least_below limit (λ steps. reaches net steps v))
least_is_distance net limit k v ok within passes = record {
  walk = walk_of net (least_below limit (λ steps. reaches net steps v)) v (least_passes limit k (λ steps. reaches net steps v) within passes);
  least = λ ws walk. least_at_most limit (length ws) (λ steps. reaches net steps v) (reaches_by net ok.limits.edges_in (length ws) v ws walk refl);
}

-- each node has a distance
has_distance : (net : Network) (v : ℕ) → IsAcceptedNetwork net → v < net.nodes → (d : ℕ) × IsDistance net v d
has_distance net v ok within =
    let (ws, walk) = ok.connected v within in
    (_, least_is_distance net (suc (length ws)) (length ws) v ok (omega arith) (reaches_by net ok.limits.edges_in (length ws) v ws walk refl))

-- different nodes, one for each distance up to d
record IsDescent (net : Network) (d : ℕ) (xs : List ℕ) : Type 0 where
  pub long : length xs ≡ suc d
  pub distinct : IsDistinct eqb xs
  pub nodes : (q : ℕ) → list_any (eqb q) xs ≡ true → q < net.nodes
  pub near : (q : ℕ) → list_any (eqb q) xs ≡ true → (e : ℕ) × (e ≤ d) × IsDistance net q e

none_equal : (v : ℕ) (xs : List ℕ) → list_any (eqb v) xs ≡ false → AllByRecursion (λ x. eqb v x ≡ false) xs
none_equal v [] none = tt
none_equal v (x ∷ xs) none = elim (cases_Bool (eqb v x)) [
  | inl same ↦ absurd (false≢true (sym none ∙ rw same refl))
  | inr other ↦ (other, none_equal v xs (rw other at none))
]

head_or_tail : (q v : ℕ) (xs : List ℕ) → list_any (eqb q) (v ∷ xs) ≡ true → (q ≡ v) ⊎ (list_any (eqb q) xs ≡ true)
head_or_tail q v xs h = elim (cases_Bool (eqb q v)) [
  | inl same ↦ inl (grind (arith, nat_tests))
  | inr other ↦ inr (rw other at h)
]

-- a node at the distance d+1 in front of a descent from d
descent-further : (net : Network) (d v : ℕ) (xs : List ℕ) → v < net.nodes → IsDistance net v (suc d) → IsDescent net d xs → IsDescent net (suc d) (v ∷ xs)
unfolding IsDistinct
descent-further net d v xs within dist below = record {
  long = omega (arith, below.long);
  distinct = (
    none_equal v xs (elim (cases_Bool (list_any (eqb v) xs)) [
      | inl there ↦ let (e, less, other) = below.near v there in absurd (omega (arith, one_distance net v _ _ dist other))
      | inr out ↦ out
    ]),
    below.distinct,
  );
  nodes = λ q h. elim (head_or_tail q v xs h) [
    | inl same ↦ omega arith
    | inr further ↦ below.nodes q further
  ];
  near = λ q h. elim (head_or_tail q v xs h) [
    | inl same ↦ (suc d, omega arith, rw same dist)
    | inr further ↦ let (e, less, other) = below.near q further in (e, omega arith, other)
  ];
}

-- from each node such a descent leads to the root
descent : (net : Network) (d v : ℕ) → IsAcceptedNetwork net → v < net.nodes → IsDistance net v d → (xs : List ℕ) × IsDescent net d xs
unfolding IsDistinct
descent net zero v ok within dist = (
  v ∷ [],
  record {
    long = refl;
    distinct = (tt, tt);
    nodes = λ q h. elim (head_or_tail q v [] h) [
      | inl same ↦ omega arith
      | inr further ↦ absurd (false≢true further)
    ];
    near = λ q h. elim (head_or_tail q v [] h) [
      | inl same ↦ (0, omega arith, rw same dist)
      | inr further ↦ absurd (false≢true further)
    ];
  },
)
descent net (suc d) v ok within dist = elim (same_or_not v net.root) [
  | inl same ↦ absurd (omega (arith, one_distance net v (suc d) 0 dist (rw same (root_distance net))))
  | inr other ↦
      let (p, inside, nearer) = has_nearer net v (suc d) ok dist other in
      let is : nearer.distance ≡ d = omega (arith, one_distance net v _ _ dist nearer.of_node) in
      let (xs, below) = descent net d p ok inside (rw is at nearer.of_nearer) in
      (v ∷ xs, descent-further net d v xs within dist below)
]

-- so a distance is below the number of nodes
distance_below : (net : Network) (v d : ℕ) → IsAcceptedNetwork net → v < net.nodes → IsDistance net v d → d < net.nodes
distance_below net v d ok within dist =
    let (xs, is) = descent net d v ok within dist in
    omega (arith, is.long, length-le_from_distinct_below xs net.nodes is.distinct is.nodes)

pub each_distance : (net : Network) (v : ℕ) → IsAcceptedNetwork net → v < net.nodes → (d : ℕ) × (d < net.nodes) × IsDistance net v d
each_distance net v ok within =
    let (d, dist) = has_distance net v ok within in
    (d, distance_below net v d ok within dist, dist)
