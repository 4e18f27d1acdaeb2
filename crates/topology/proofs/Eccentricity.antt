-- The greatest distance: no node's is greater, and some node's is as great
use Rattle.std.proofs.Common.{◌≡◌, ℕ, ◌+◌, ◌-◌, ◌*◌, ◌<◌, ◌≤◌, ◌⊎◌, inl, inr, zero, suc, List, [], ◌∷◌, length, map, get_or, refl, sym, ◌∙◌, ap, subst, arith}
use Rattle.std.specs.Prelude.{max, fold, slice_index, Option, unwrap_or}
use Rattle.std.proofs.lemmas.List.{ext_get_or}
use Rattle.std.specs.List.{range_with_len, reduce}
use Rattle.std.proofs.Math.Nat.{le-max_left, le-max_right}
use Rattle.std.proofs.lemmas.List.FromFn.{get_or-map-range_with_len, length-map-range_with_len}
use Rattle.topology.specs.Network.{Network, IsDistance, IsAcceptedNetwork}
use Rattle.topology.specs.Tree.{distance_of}
use Rattle.topology.specs.Eccentricity.{IsEccentricity, eccentricity_of, sharp_of, DistancesWithin, EccentricityIs, EccentricityBelow, SharpWithinBound}
use Rattle.topology.proofs.Reached.{each_distance}
use Rattle.topology.proofs.Parents.{distance_is, distance_computed}

-- ---- the greatest of a list

above-start : (a : ℕ) (xs : List ℕ) → a ≤ fold max a xs
above-start a [] = omega arith
above-start a (x ∷ xs) = omega (arith, le-max_left a x, above-start (max a x) xs)

above-item : (a : ℕ) (xs : List ℕ) (i : ℕ) → i < length xs → get_or xs i 0 ≤ fold max a xs
above-item a [] i l = absurd (omega (arith, l))
above-item a (x ∷ xs) zero l = omega (arith, le-max_right a x, above-start (max a x) xs)
above-item a (x ∷ xs) (suc i) l = above-item (max a x) xs i (omega (arith, l))

either : (a x : ℕ) → (max a x ≡ a) ⊎ (max a x ≡ x)
either a x = grind arith

reached : (a : ℕ) (xs : List ℕ) → (fold max a xs ≡ a) ⊎ ((i : ℕ) × (i < length xs) × (fold max a xs ≡ get_or xs i 0))
reached a [] = inl refl
reached a (x ∷ xs) = elim (reached (max a x) xs) [
  | inl e ↦ elim (either a x) [ inl k ↦ inl (e ∙ k) | inr k ↦ inr (0, omega arith, e ∙ k) ]
  | inr w ↦ inr (suc w.0, omega (arith, w.1), w.2)
]

-- ---- the greatest distance

distance-at : (net : Network) (v : ℕ) → v < net.nodes → get_or (map (distance_of net) (range_with_len 0 net.nodes)) v 0 ≡ distance_of net v
distance-at net v l = get_or-map-range_with_len (distance_of net) 0 net.nodes v v 0 l (omega arith)

pub distances-within : DistancesWithin
distances-within net v l =
    let all : length (map (distance_of net) (range_with_len 0 net.nodes)) ≡ net.nodes = length-map-range_with_len (distance_of net) 0 net.nodes in
    omega (arith, distance-at net v l, above-item 0 (map (distance_of net) (range_with_len 0 net.nodes)) v (omega (arith, l, all)))

-- some node is as far as the greatest distance: the root, if all distances are 0
attained : (net : Network) → IsAcceptedNetwork net → (v : ℕ) × (v < net.nodes) × (distance_of net v ≡ eccentricity_of net)
attained net ok =
    let distances = map (distance_of net) (range_with_len 0 net.nodes) in
    let all : length distances ≡ net.nodes = length-map-range_with_len (distance_of net) 0 net.nodes in
    elim (reached 0 distances) [
      | inl e ↦ (net.root, ok.limits.root_in, (let w = distances-within net net.root ok.limits.root_in in omega (arith, e, w)))
      | inr w ↦ (let l : w.0 < net.nodes = omega (arith, w.1, all) in (w.0, l, omega (arith, w.2, distance-at net w.0 l)))
    ]

is-greatest : (net : Network) → IsAcceptedNetwork net → IsEccentricity net (eccentricity_of net)
is-greatest net ok =
    let w = attained net ok in
    record {
      most = λ v d l is. omega (arith, distance_computed net v d ok l is, distances-within net v l);
      attained = (w.0, w.1, subst (IsDistance net w.0) w.2 (distance_is net w.0 ok w.1));
    }

one-greatest : (net : Network) (d e : ℕ) → IsEccentricity net d → IsEccentricity net e → d ≡ e
one-greatest net d e h k =
    let x = h.attained in
    let y = k.attained in
    omega (arith, h.most y.0 e y.1 y.2, k.most x.0 d x.1 x.2)

pub eccentricity-is : EccentricityIs
eccentricity-is net e ok = (
  (λ is. subst (IsEccentricity net) is (is-greatest net ok)),
  (λ is. one-greatest net (eccentricity_of net) e (is-greatest net ok) is),
)

pub eccentricity-below : EccentricityBelow
eccentricity-below net ok =
    let w = attained net ok in
    let d = each_distance net w.0 ok w.1 in
    omega (arith, w.2, d.1, distance_computed net w.0 d.0 ok w.1 d.2)

-- ---- the bound

steep : (e m c : ℕ) → 1 ≤ m → e ≤ m → 1 ≤ c → 16 * m + 4 * e + 15 ≤ 4 * (c + 1) + 4 * (m + 2) + 48 * m * m + 1
steep e zero c l b k = absurd (omega (arith, l))
steep e (suc m) c l b k = grind arith

pub sharp-within : SharpWithinBound
sharp-within net ok =
    let m = net.nodes - 1 in
    let below = eccentricity-below net ok in
    let nodes : net.nodes + 1 ≡ m + 2 = omega (arith, ok.limits.two) in
    let s = steep (eccentricity_of net) m net.capacity (omega (arith, ok.limits.two)) (omega (arith, below)) ok.limits.some_capacity in
    subst (λ k. sharp_of net ≤ 4 * (net.capacity + 1) + 4 * k + 48 * m * m + 1) (sym nodes) s

-- ---- the kept distances

greatest-or_none : (xs : List ℕ) → unwrap_or (reduce max xs) 0 ≡ fold max 0 xs
greatest-or_none [] = refl
greatest-or_none (x ∷ xs) = let e : max 0 x ≡ x = omega arith in ap (λ a. fold max a xs) (sym e)

kept-are_distances : (net : Network) (kept : List ℕ) → IsAcceptedNetwork net → length kept ≡ net.nodes
    → ((v : ℕ) → v < net.nodes → IsDistance net v (slice_index kept v)) → kept ≡ map (distance_of net) (range_with_len 0 net.nodes)
kept-are_distances net kept ok all are =
    ext_get_or 0 kept (map (distance_of net) (range_with_len 0 net.nodes)) (all ∙ sym (length-map-range_with_len (distance_of net) 0 net.nodes))
    (λ v l. let within : v < net.nodes = omega (arith, l, all) in
    distance_computed net v (slice_index kept v) ok within (are v within) ∙ sym (distance-at net v within))

pub greatest-kept : (net : Network) (kept : List ℕ) (found : Option ℕ) (r : ℕ) → IsAcceptedNetwork net → length kept ≡ net.nodes
    → ((v : ℕ) → v < net.nodes → IsDistance net v (slice_index kept v)) → found ≡ reduce max kept → r ≡ unwrap_or found 0 → r ≡ eccentricity_of net
greatest-kept net kept found r ok all are e f =
    f ∙ (ap (λ o. unwrap_or o 0) e ∙ (greatest-or_none kept ∙ ap (fold max 0) (kept-are_distances net kept ok all are)))
