-- A network that an edge joins or leaves is accepted if nothing is said against it.
use Rattle.std.proofs.Common.{◌≡◌, ◌≢◌, ◌⊎◌, ◌∙◌, ℕ, zero, suc, ◌+◌, ◌<◌, ◌≤◌, Bool, true, false, not, List, [], ◌∷◌, ◌++◌, length, get_or, refl, sym, ap, arith, nat_lt, IsTrue, length-append, inl, inr}
use Rattle.std.specs.Prelude.{◌↔◌, Some, None}
use Rattle.std.specs.List.{All, list_any, filter, range_with_len}
use Rattle.std.proofs.lemmas.Bool.{cases_Bool, or_parts}
use Rattle.std.proofs.lemmas.Bool.Decides.{nat_tests}
use Rattle.std.proofs.lemmas.List.Sums.{length-filter, count_by-le-length, AllPass-from_list_all, list_all-from_AllPass}
use Rattle.std.proofs.lemmas.List.Elements.{All-append, All-filter}
use Rattle.std.proofs.lemmas.List.FromFn.{length-range_with_len, get_or-range_with_len}
use Rattle.topology.specs.Network.{Network, Edge, are_joined, is_between, is_same_edge, has_double_edge, IsWalk, IsConnected, IsEdgeBelow, IsWithinLimits, IsAcceptedNetwork, joined_net, parted_net}
use Rattle.topology.specs.Tree.{distance_of, reaches, least_below, is_connected}
use Rattle.topology.specs.Change.{has_no_node, join_fault, part_fault, is_same_frame, without_place}
use Rattle.topology.specs.declared.fault.NetFault.TheVariants.{BadEdge, NoEdge, Apart}
use Rattle.topology.proofs.Changed.{IsPlaceOf, joined_after_join, without_at}
use Rattle.topology.proofs.Reached.{walk_of}
use Rattle.topology.proofs.Parents.{is_tree}

-- ---- an edge joins

-- nothing is said against the edge
pub record MayJoin (net : Network) (u v : ℕ) : Type 0 where
  pub few : length net.edges < 256
  pub first : u < net.nodes
  pub second : v < net.nodes
  pub other : u ≢ v
  pub apart : are_joined net.edges u v ≡ false

pub may_join : (net : Network) (u v : ℕ) → join_fault net u v ≡ None → MayJoin net u v
may_join net u v none = record {
  few = grind (arith, nat_tests);
  first = grind (arith, nat_tests);
  second = grind (arith, nat_tests);
  other = λ same. grind (arith, nat_tests);
  apart = grind (arith, nat_tests);
}

same_between : (e : Edge) (u v : ℕ) → is_same_edge e (u, v) ≡ is_between u v e
same_between e u v = grind (arith, nat_tests)

none_more : (p : Edge → Bool) (es : List Edge) (e : Edge) → list_any p es ≡ false → p e ≡ false → list_any p (es ++ e ∷ []) ≡ false
none_more p [] e none last = rw last refl
none_more p (f ∷ es) e none last = let (first, rest) = or_parts (p f) (list_any p es) none in rw (first, none_more p es e rest last) refl

no_double_more : (es : List Edge) (u v : ℕ) → has_double_edge es ≡ false → are_joined es u v ≡ false → has_double_edge (es ++ (u, v) ∷ []) ≡ false
no_double_more [] u v once none = refl
no_double_more (e ∷ es) u v once none =
    let (alone, others) = or_parts (list_any (is_same_edge e) es) (has_double_edge es) once in
    let (first, rest) = or_parts (is_between u v e) (are_joined es u v) none in
    rw (none_more (is_same_edge e) es (u, v) alone (same_between e u v ∙ first), no_double_more es u v others rest) refl

joined_still : (es : List Edge) (u v a b : ℕ) → IsTrue (are_joined es a b) → IsTrue (are_joined (es ++ (u, v) ∷ []) a b)
joined_still es u v a b joined = rw (joined_after_join es u v a b, joined) refl

walk_still : (es : List Edge) (u v a : ℕ) (ws : List ℕ) (b : ℕ) → IsWalk es a ws b → IsWalk (es ++ (u, v) ∷ []) a ws b
walk_still es u v a [] b walk = walk
walk_still es u v a (w ∷ ws) b walk = (joined_still es u v a w walk.0, walk_still es u v w ws b walk.1)

one_in : (net : Network) (u v : ℕ) → MayJoin net u v → All (IsEdgeBelow net.nodes) ((u, v) ∷ [])
one_in net u v may = λ k d h. let first : k ≡ 0 = omega arith in rw first (record { first = may.first; second = may.second; no_loop = may.other })

pub joined_accepted : (net : Network) (u v : ℕ) → IsAcceptedNetwork net → join_fault net u v ≡ None → IsAcceptedNetwork (joined_net net u v)
joined_accepted net u v ok none =
    let may = may_join net u v none in
    record {
      limits = record {
        two = ok.limits.two;
        most = ok.limits.most;
        few_edges = omega (arith, length-append net.edges ((u, v) ∷ []), may.few);
        root_in = ok.limits.root_in;
        some_capacity = ok.limits.some_capacity;
        most_capacity = ok.limits.most_capacity;
        most_lease = ok.limits.most_lease;
        edges_in = All-append (IsEdgeBelow net.nodes) net.edges ((u, v) ∷ []) ok.limits.edges_in (one_in net u v may);
        no_double = no_double_more net.edges u v ok.limits.no_double may.apart;
      };
      connected = λ w h. let (ws, walk) = ok.connected w h in (ws, walk_still net.edges u v net.root ws w walk);
    }

-- ---- an edge goes

none_fewer : (p q : Edge → Bool) (es : List Edge) → list_any p es ≡ false → list_any p (filter q es) ≡ false
none_fewer p q [] none = refl
none_fewer p q (e ∷ es) none =
    let (first, rest) = or_parts (p e) (list_any p es) none in
    elim (cases_Bool (q e)) [
      | inl stays ↦ rw (stays, first, none_fewer p q es rest) refl
      | inr goes ↦ rw (goes, none_fewer p q es rest) refl
    ]

no_double_fewer : (q : Edge → Bool) (es : List Edge) → has_double_edge es ≡ false → has_double_edge (filter q es) ≡ false
no_double_fewer q [] once = refl
no_double_fewer q (e ∷ es) once =
    let (alone, others) = or_parts (list_any (is_same_edge e) es) (has_double_edge es) once in
    elim (cases_Bool (q e)) [
      | inl stays ↦ rw (stays, none_fewer (is_same_edge e) q es alone, no_double_fewer q es others) refl
      | inr goes ↦ rw (goes, no_double_fewer q es others) refl
    ]

pub parted_limits : (net : Network) (u v : ℕ) → IsWithinLimits net → IsWithinLimits (parted_net net u v)
parted_limits net u v limits =
    let stays : Edge → Bool = λ e. not (is_between u v e) in
    record {
      two = limits.two;
      most = limits.most;
      few_edges = omega (arith, length-filter stays net.edges, count_by-le-length stays net.edges, limits.few_edges);
      root_in = limits.root_in;
      some_capacity = limits.some_capacity;
      most_capacity = limits.most_capacity;
      most_lease = limits.most_lease;
      edges_in = All-filter stays (IsEdgeBelow net.nodes) net.edges limits.edges_in;
      no_double = no_double_fewer stays net.edges limits.no_double;
    }

between_ends : (e : Edge) → is_between e.0 e.1 e ≡ true
between_ends e = grind (arith, nat_tests)

-- the edge at a place is one that joins its ends
pub removed_limits : (net : Network) (place : ℕ) → place < length net.edges → IsWithinLimits net → IsWithinLimits (without_place net place)
removed_limits net place within limits =
    let e : Edge = get_or net.edges place (0, 0) in
    let same = without_at net.edges e.0 e.1 place (0, 0) limits.no_double within (between_ends e) in
    rw same at (parted_limits net e.0 e.1 limits)

-- ---- connected, as a test

least_found : (limit : ℕ) (test : ℕ → Bool) → least_below limit test < limit → test (least_below limit test) ≡ true
least_found zero test less = absurd (omega arith)
least_found (suc n) test less = elim (cases_Bool (test 0)) [
  | inl now ↦ rw now now
  | inr fails ↦
      let later : suc (least_below n (λ k. test (suc k))) < suc n = rw fails at less in
      rw fails (least_found n (λ k. test (suc k)) (omega arith))
]

below_test : (net : Network) (v : ℕ) {w : ℕ} → nat_lt (distance_of net w) net.nodes ≡ true → w ≡ 0 + v → distance_of net v < net.nodes
below_test net v {w} passes is =
    let same : w ≡ v = omega (arith, is) in
    let here : nat_lt (distance_of net v) net.nodes ≡ true = rw same at passes in
    grind (arith, nat_tests)

pub connected_from_test : (net : Network) → is_connected net ≡ true → IsConnected net
connected_from_test net h = λ v within.
    let each = AllPass-from_list_all (λ w. nat_lt (distance_of net w) net.nodes) (range_with_len 0 net.nodes) h in
    let less : distance_of net v < net.nodes = below_test net v (each v v (omega (arith, length-range_with_len 0 net.nodes))) (get_or-range_with_len 0 net.nodes v v within) in
    let (ws, walk, long) = walk_of net (distance_of net v) v (least_found net.nodes (λ steps. reaches net steps v) less) in
    (ws, walk)

pub test_from_connected : (net : Network) → IsAcceptedNetwork net → is_connected net ≡ true
test_from_connected net ok = list_all-from_AllPass (λ w. nat_lt (distance_of net w) net.nodes) (range_with_len 0 net.nodes) (λ k d h.
    let within : k < net.nodes = omega (arith, length-range_with_len 0 net.nodes, h) in
    let is : get_or (range_with_len 0 net.nodes) k d ≡ k = omega (arith, get_or-range_with_len 0 net.nodes k d within) in
    let less = (is_tree net ok).below k within in
    rw is (grind (arith, nat_tests)))

pub connected_test : (net : Network) → IsWithinLimits net → (is_connected net ≡ true) ↔ IsConnected net
connected_test net limits = (connected_from_test net, λ c. test_from_connected net (record { limits = limits; connected = c }))

-- nothing is said against the edge's going
pub record MayPart (net : Network) (u v : ℕ) : Type 0 where
  pub joined : are_joined net.edges u v ≡ true
  pub connected : is_connected (parted_net net u v) ≡ true

pub may_part : (net : Network) (u v : ℕ) → part_fault net u v ≡ None → MayPart net u v
may_part net u v none = record { joined = grind (arith, nat_tests); connected = grind (arith, nat_tests) }

pub parted_accepted : (net : Network) (u v : ℕ) → IsAcceptedNetwork net → part_fault net u v ≡ None → IsAcceptedNetwork (parted_net net u v)
parted_accepted net u v ok none = record { limits = parted_limits net u v ok.limits; connected = connected_from_test (parted_net net u v) (may_part net u v none).connected }

-- ---- a copy

-- the four numbers of two networks of one frame are the same
pub record AreSame (net other : Network) : Type 0 where
  pub nodes : net.nodes ≡ other.nodes
  pub root : net.root ≡ other.root
  pub capacity : net.capacity ≡ other.capacity
  pub lease : net.lease ≡ other.lease

pub are_same : (net other : Network) → IsTrue (is_same_frame net other) → AreSame net other
are_same net other h = record { nodes = grind (arith, nat_tests); root = grind (arith, nat_tests); capacity = grind (arith, nat_tests); lease = grind (arith, nat_tests) }

-- a network with the edges of another of its frame is that one
pub same_net : (net other : Network) (edges : List Edge) → IsTrue (is_same_frame net other) → edges ≡ other.edges → record net { edges = edges } ≡ other
same_net net other edges h e =
    let s = are_same net other h in
    λ i. record { nodes = s.nodes i; root = s.root i; capacity = s.capacity i; lease = s.lease i; edges = e i }

pub same_with_edges : (net other : Network) (edges : List Edge) → IsTrue (is_same_frame net other) → edges ≡ other.edges → IsAcceptedNetwork other → IsAcceptedNetwork (record net { edges = edges })
same_with_edges net other edges h e ok = rw (same_net net other edges h e) ok

-- ---- what the code looks for

pub both_nodes : (net : Network) (u v : ℕ) → u < net.nodes → v < net.nodes → has_no_node net u v ≡ false
both_nodes net u v u_in v_in = grind (arith, nat_tests)

pub bad_edge : (net : Network) (u v : ℕ) → (net.nodes ≤ u) ⊎ (net.nodes ≤ v) → part_fault net u v ≡ Some BadEdge
bad_edge net u v (inl out) = grind (arith, nat_tests)
bad_edge net u v (inr out) = grind (arith, nat_tests)

pub no_edge : (net : Network) (u v : ℕ) → u < net.nodes → v < net.nodes → are_joined net.edges u v ≡ false → part_fault net u v ≡ Some NoEdge
no_edge net u v u_in v_in none = grind (arith, nat_tests)

pub not_connected_test : (net : Network) → (IsConnected net → ⊥) → is_connected net ≡ false
not_connected_test net apart = elim (cases_Bool (is_connected net)) [
  | inl h ↦ absurd (apart (connected_from_test net h))
  | inr h ↦ h
]

-- the edge may go if the others hold the nodes together
pub may_go : (net : Network) (u v place : ℕ) → IsAcceptedNetwork net → has_no_node net u v ≡ false → IsPlaceOf net.edges u v place → IsConnected (without_place net place) → part_fault net u v ≡ None
may_go net u v place ok nodes at connected =
    let parted = parted_net net u v in
    let holds : IsConnected parted = rw (← at.removed) at connected in
    rw (nodes, at.joined, test_from_connected parted (record { limits = parted_limits net u v ok.limits; connected = holds })) refl

-- and not otherwise
pub may_not_go : (net : Network) (u v place : ℕ) → has_no_node net u v ≡ false → IsPlaceOf net.edges u v place → (IsConnected (without_place net place) → ⊥) → part_fault net u v ≡ Some Apart
may_not_go net u v place nodes at apart =
    let parted = parted_net net u v in
    let falls : IsConnected parted → ⊥ = rw (← at.removed) at apart in
    rw (nodes, at.joined, not_connected_test parted falls) refl

frame_from : (net other : Network) → other.nodes ≡ net.nodes → other.root ≡ net.root → other.capacity ≡ net.capacity → other.lease ≡ net.lease → IsTrue (is_same_frame net other)
frame_from net other n r k l = grind (arith, nat_tests)

-- of one frame are the networks that differ in their edges alone
pub frame_test : (net other : Network) → IsTrue (is_same_frame net other) ↔ (other ≡ record net { edges = other.edges })
frame_test net other = (
  λ h. sym (same_net net other other.edges h refl),
  λ e. frame_from net other (ap (λ n. n.nodes) e) (ap (λ n. n.root) e) (ap (λ n. n.capacity) e) (ap (λ n. n.lease) e),
)
