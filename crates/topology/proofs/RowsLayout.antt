-- Networks and values by their parts, an edge that goes by its place, and what is kept of two nodes
-- and their edge; and some that are none of these.
use Rattle.std.proofs.Common.{◌≡◌, ℕ, ◌<◌, ◌≤◌, ◌∷◌, [], List, Vec, refl, ap, arith, length, zero, suc, pos}
use Rattle.std.proofs.lemmas.List.Elements.{All-cons, All-nil}
use Rattle.std.specs.Prelude.{All, negsuc, slice_index}
use Rattle.std.specs.Vec.{vec_capacity}
use Rattle.topology.specs.Change.{without_place}
use Rattle.topology.specs.Layout.{HasRowsFor, IsLayoutOf}
use Rattle.topology.specs.Network.{Edge, IsWalk, Network, network_by}
use Rattle.topology.specs.Refusal.{Values, values_by}
use Rattle.topology.specs.Spread.{IsSearched}
use Rattle.topology.specs.declared.layout.Layout.{Layout}

-- three nodes, the root 1, links of 5 items, a lease of 7 ticks, and two edges
abbrev three : Network
three = network_by 3 1 5 7 ((0, 1) ∷ (1, 2) ∷ [])

network-parts : (three.nodes ≡ 3) × (three.root ≡ 1) × (three.capacity ≡ 5) × (three.lease ≡ 7) × (three.edges ≡ (0, 1) ∷ (1, 2) ∷ [])
network-parts = (refl, refl, refl, refl, refl)

-- the lease is not what a link holds
network_not-turned : ¬ (three ≡ network_by 3 1 7 5 ((0, 1) ∷ (1, 2) ∷ []))
network_not-turned e = let holds : 5 ≡ 7 = ap (λ (net : Network). net.capacity) e in omega (arith, holds)

-- the same as a file names them, which may also name what is no network
abbrev named : Values
named = values_by (pos 3) (negsuc 0) (pos 5) (pos 7) ((pos 0, pos 1) ∷ (pos 1, pos 1) ∷ [])

values-parts : (named.nodes ≡ pos 3) × (named.root ≡ negsuc 0) × (named.capacity ≡ pos 5) × (named.lease ≡ pos 7)
    × (named.edges ≡ (pos 0, pos 1) ∷ (pos 1, pos 1) ∷ [])
values-parts = (refl, refl, refl, refl, refl)

-- the root is not how many nodes there are
values_not-turned : ¬ (named ≡ values_by (negsuc 0) (pos 3) (pos 5) (pos 7) ((pos 0, pos 1) ∷ (pos 1, pos 1) ∷ []))
values_not-turned e = let counts = ap (λ (v : Values). v.nodes) e in grind (arith, counts)

-- a square: 0 - 1, 0 - 2, 1 - 3, 2 - 3; its places are counted from 0, and the others keep their order
abbrev square : Network
square = network_by 4 0 1 0 ((0, 1) ∷ (0, 2) ∷ (1, 3) ∷ (2, 3) ∷ [])

without-second : without_place square 1 ≡ network_by 4 0 1 0 ((0, 1) ∷ (1, 3) ∷ (2, 3) ∷ [])
without-second = refl

without-first : without_place square 0 ≡ network_by 4 0 1 0 ((0, 2) ∷ (1, 3) ∷ (2, 3) ∷ [])
without-first = refl

-- the edge at place 1 does not stay, and only that one goes
without_not-next : ¬ ((without_place square 1).edges ≡ (0, 1) ∷ (0, 2) ∷ (2, 3) ∷ [])
without_not-next e = grind (arith, e)

without_not-more : ¬ ((without_place square 1).edges ≡ (0, 1) ∷ (2, 3) ∷ [])
without_not-more e = grind (arith, e)

-- ---- two nodes, 0 - 1, with the root 0

abbrev edge : List Edge
edge = (0, 1) ∷ []

-- 0 is at distance 0, and 1 at distance 1
searched : IsSearched edge 0 (0 ∷ 1 ∷ [])
searched = record { reached = reached; in_range = in_range; least = least }
  where
    reached : (v : ℕ) → v < 2 → slice_index (0 ∷ 1 ∷ []) v < 65535
        → (ws : List ℕ) × IsWalk edge 0 ws v × (length ws ≡ slice_index (0 ∷ 1 ∷ []) v)
    reached zero within near = ([], refl, refl)
    reached (suc zero) within near = (1 ∷ [], (refl, refl), refl)
    reached (suc (suc v)) within near = absurd (omega arith)

    in_range : (v : ℕ) → slice_index (0 ∷ 1 ∷ []) v ≤ 65535
    in_range zero = omega arith
    in_range (suc zero) = omega arith
    in_range (suc (suc v)) = omega arith

    least : (v : ℕ) (ws : List ℕ) → IsWalk edge 0 ws v → (slice_index (0 ∷ 1 ∷ []) v < 65535) × (slice_index (0 ∷ 1 ∷ []) v ≤ length ws)
    least zero ws walk = (omega arith, omega arith)
    least (suc zero) [] walk = absurd (omega (arith, walk))
    least (suc zero) (w ∷ ws) walk = (omega arith, omega arith)
    least (suc (suc v)) ws walk = (omega arith, omega arith)

-- a list with room for both
abbrev HasSpace : {A : Type 0} → Vec ℕ A → Type 0
HasSpace row = 2 ≤ vec_capacity row

module _ {A : Type 0} (l : Layout A) (first second : Vec ℕ A) (rows : l.neighbours.items ≡ first ∷ second ∷ []) where
  -- a list with room for two nodes, and a distance, for each of the two
  has-rows : 2 ≤ vec_capacity first → 2 ≤ vec_capacity second → length l.distances.items ≡ 2 → HasRowsFor 2 l
  has-rows room more long = record {
    all_rows = rw rows refl;
    room = rw rows (All-cons HasSpace first (second ∷ []) room (All-cons HasSpace second [] more (All-nil HasSpace)));
    all_distances = long;
  }

  -- not for three
  rows_not-three : ¬ HasRowsFor 3 l
  rows_not-three has = let all : 2 ≡ 3 = rw rows at has.all_rows in omega (arith, all)

  -- nor if the second list has room for one
  rows_not-narrow : vec_capacity second ≡ 1 → ¬ HasRowsFor 2 l
  rows_not-narrow one has =
      let room : All HasSpace (first ∷ second ∷ []) = rw rows at has.room in
      let more : 2 ≤ vec_capacity second = room 1 second (omega arith) in
      omega (arith, one, more)

  -- nor without a distance for each
  rows_not-unmeasured : l.distances.items ≡ 0 ∷ [] → ¬ HasRowsFor 2 l
  rows_not-unmeasured ds has = let all : 1 ≡ 2 = rw ds at has.all_distances in omega (arith, all)

  module _ (next : first.items ≡ 1 ∷ []) (back : second.items ≡ 0 ∷ []) where
    laid-out : 2 ≤ vec_capacity first → 2 ≤ vec_capacity second → l.distances.items ≡ 0 ∷ 1 ∷ [] → IsLayoutOf 2 edge 0 l
    laid-out room more ds =
        let has = has-rows room more (rw ds refl) in
        record {
          neighbours_are = rw (rows, next, back) refl;
          room = has.room;
          all_distances = has.all_distances;
          searched = rw ds searched;
        }

    -- a distance of 2 is no search's: a walk of one step leads there
    laid_not-further : l.distances.items ≡ 0 ∷ 2 ∷ [] → ¬ IsLayoutOf 2 edge 0 l
    laid_not-further ds is =
        let s : IsSearched edge 0 (0 ∷ 2 ∷ []) = rw ds at is.searched in
        let near : 2 ≤ 1 = (s.least 1 (1 ∷ []) (refl, refl)).1 in
        omega (arith, near)

    -- nor are the distances from 0 those from 1
    laid_not-other_root : l.distances.items ≡ 0 ∷ 1 ∷ [] → ¬ IsLayoutOf 2 edge 1 l
    laid_not-other_root ds is =
        let s : IsSearched edge 1 (0 ∷ 1 ∷ []) = rw ds at is.searched in
        let near : 1 ≤ 0 = (s.least 1 [] refl).1 in
        omega (arith, near)

    -- without an edge the two are no neighbours
    laid_not-joined : ¬ IsLayoutOf 2 [] 0 l
    laid_not-joined is =
        let e : ◌≡◌ {A = List (List ℕ)} ((1 ∷ []) ∷ (0 ∷ []) ∷ []) ([] ∷ [] ∷ []) = rw (rows, next, back) at is.neighbours_are in
        absurd cc
