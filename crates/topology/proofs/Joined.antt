-- Joined nodes and neighbours: the same both ways, nodes, and exactly those of the lists.
use Rattle.std.proofs.Common.{◌≡◌, ◌∙◌, ℕ, ◌+◌, ◌<◌, Bool, true, false, ◌||◌, ◌&&◌, List, [], ◌∷◌, get_or, refl, sym, arith, eqb, IsTrue, inl, inr}
use Rattle.std.specs.Prelude.{◌↔◌}
use Rattle.std.specs.List.{All, Contains, list_any, filter, range_with_len}
use Rattle.std.specs.List.Sorted.{IsStrictlyIncreasing}
use Rattle.std.proofs.lemmas.Bool.{cases_Bool}
use Rattle.std.proofs.lemmas.Bool.Decides.{nat_tests}
use Rattle.std.proofs.lemmas.List.Folds.{Any-from_list_any, list_any_at}
use Rattle.std.proofs.lemmas.List.FromFn.{length-range_with_len, get_or-range_with_len}
use Rattle.std.proofs.lemmas.List.Kept.{IsStrictlyIncreasing-filter}
use Rattle.std.proofs.lemmas.Map.Views.{list_any-from_Contains, Contains-from_any}
use Rattle.std.proofs.lemmas.Cmp.{nat_eq_equiv}
use Rattle.topology.specs.Network.{Network, Edge, are_joined, is_between, neighbours_of, IsEdgeBelow, IsAcceptedNetwork}
use Rattle.topology.proofs.SearchByLevels.{between_cases}

pub or_comm : (a b : Bool) → (a || b) ≡ (b || a)
or_comm true true = refl
or_comm true false = refl
or_comm false true = refl
or_comm false false = refl

pub joined_back : (edges : List Edge) (u v : ℕ) → are_joined edges u v ≡ are_joined edges v u
joined_back [] u v = refl
joined_back (e ∷ es) u v = rw (or_comm (eqb e.0 u && eqb e.1 v) (eqb e.0 v && eqb e.1 u), joined_back es u v)

pub joined_below : (edges : List Edge) (n u v : ℕ) → All (IsEdgeBelow n) edges → IsTrue (are_joined edges u v) → u < n
joined_below edges n u v inside joined =
    let (k, e, h, same, passes) = Any-from_list_any (is_between u v) edges joined in
    let b : IsEdgeBelow n e = rw same at (inside k e h) in
    elim (between_cases u v e passes) [
      | inl q ↦ omega (arith, q.0, b.first)
      | inr q ↦ omega (arith, q.1, b.second)
    ]

pub joined_nodes : (net : Network) (v w : ℕ) → IsAcceptedNetwork net → IsTrue (are_joined net.edges v w) → (v < net.nodes) × (w < net.nodes)
joined_nodes net v w ok joined = (
  joined_below net.edges net.nodes v w ok.limits.edges_in joined,
  joined_below net.edges net.nodes w v ok.limits.edges_in (rw (joined_back net.edges w v) joined),
)

-- no node is joined to itself
pub not_to_itself : (edges : List Edge) (n v : ℕ) → All (IsEdgeBelow n) edges → are_joined edges v v ≡ false
not_to_itself edges n v inside = elim (cases_Bool (are_joined edges v v)) [
  | inr out ↦ out
  | inl joined ↦
      let (k, e, h, same, passes) = Any-from_list_any (is_between v v) edges joined in
      let b : IsEdgeBelow n e = rw same at (inside k e h) in
      elim (between_cases v v e passes) [
        | inl q ↦ absurd (b.no_loop (q.0 ∙ sym q.1))
        | inr q ↦ absurd (b.no_loop (q.0 ∙ sym q.1))
      ]
]

-- the neighbours ascend
range_increases : (a n : ℕ) → IsStrictlyIncreasing (range_with_len a n)
range_increases a n = λ k h.
    let long = length-range_with_len a n in
    omega (arith, get_or-range_with_len a n k 0 (omega arith), get_or-range_with_len a n (k + 1) 0 (omega arith))

pub neighbours_ascend : (net : Network) (v : ℕ) → IsStrictlyIncreasing (neighbours_of net v)
neighbours_ascend net v = IsStrictlyIncreasing-filter (are_joined net.edges v) (range_with_len 0 net.nodes) (range_increases 0 net.nodes)

-- a test on the kept elements is one on all
any-filter : (q p : ℕ → Bool) (xs : List ℕ) → list_any p (filter q xs) ≡ list_any (λ x. q x && p x) xs
any-filter q p [] = refl
any-filter q p (x ∷ xs) = elim (cases_Bool (q x)) [
  | inl passes ↦ rw (passes, any-filter q p xs) refl
  | inr fails ↦ rw (fails, any-filter q p xs) refl
]

-- a neighbour that passes a test is a joined node that does
pub from_neighbour : (net : Network) (v : ℕ) (p : ℕ → Bool) → list_any p (neighbours_of net v) ≡ true → (u : ℕ) × (u < net.nodes) × IsTrue (are_joined net.edges v u) × (p u ≡ true)
from_neighbour net v p some =
    let any = sym (any-filter (are_joined net.edges v) p (range_with_len 0 net.nodes)) ∙ some in
    let (k, u, h, same, passes) = Any-from_list_any (λ x. are_joined net.edges v x && p x) (range_with_len 0 net.nodes) any in
    let long = length-range_with_len 0 net.nodes in
    let is = get_or-range_with_len 0 net.nodes k u (omega arith) in
    (u, omega arith, grind (arith, nat_tests), grind (arith, nat_tests))

pub to_neighbour : (net : Network) (v u : ℕ) (p : ℕ → Bool) → u < net.nodes → IsTrue (are_joined net.edges v u) → p u ≡ true → list_any p (neighbours_of net v) ≡ true
to_neighbour net v u p within joined passes =
    let long = length-range_with_len 0 net.nodes in
    let is : get_or (range_with_len 0 net.nodes) u 0 ≡ u = omega (arith, get_or-range_with_len 0 net.nodes u 0 within) in
    any-filter (are_joined net.edges v) p (range_with_len 0 net.nodes)
    ∙ list_any_at (λ x. are_joined net.edges v x && p x) (range_with_len 0 net.nodes) u 0 (omega arith) (rw is (grind (arith, nat_tests)))

-- the neighbours are exactly the joined nodes
pub neighbours_are_joined : (net : Network) (v w : ℕ) → Contains (neighbours_of net v) w ↔ ((w < net.nodes) × IsTrue (are_joined net.edges v w))
neighbours_are_joined net v w = (
  λ inside.
      let (u, below, joined, same) = from_neighbour net v (eqb w) (list_any-from_Contains nat_eq_equiv w (neighbours_of net v) inside) in
      let is : w ≡ u = grind (arith, nat_tests) in
      rw is (below, joined),
  λ h. Contains-from_any {eq = eqb} (λ x y e. grind (arith, nat_tests)) w (neighbours_of net v) (to_neighbour net v w (eqb w) h.0 h.1 (grind (arith, nat_tests))),
)
