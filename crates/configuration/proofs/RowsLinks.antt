-- Links of two nodes and one spare pair: what is at which place, and what does not fit.
use Rattle.std.proofs.Common.{◌≡◌, ◌≢◌, ◌⊎◌, ℕ, ◌<◌, ◌+◌, if◌then◌else◌, slice_index_or, zero, suc, List, [], ◌∷◌, true, false, inl, inr, refl, ap, arith}
use Rattle.topology.specs.Network.{are_joined}
use Rattle.run_model.specs.link_model.Link.{LinkView, link}
use Rattle.run_model.specs.link_model.declared.item.Item.{Item}
use Rattle.run_model.specs.link_model.declared.item.Item.TheVariants.{Noise}
use Rattle.run_model.proofs.RowsTwo.{two_nodes, is-accepted}
use Rattle.configuration.specs.LinksView.{IsLinks, LinksView, link_between, under_way, spare_pairs}
use Rattle.configuration.specs.PairTable.{PairTableView, place_of, value_at}
use Rattle.configuration.specs.Placed.{ArePlaced, AreStocked, IsSpare, joined_too}

-- for three nodes, the pairs of node 1 come after the three of node 0
third-of_three : place_of 3 1 2 ≡ 5
third-of_three = refl

-- the link from 0 to 1 is at place 1, the one back at 2; 3 and 4 are spare
abbrev table : PairTableView
table = record { nodes = 2; values = 0 ∷ 1 ∷ 2 ∷ 0 ∷ [] }

abbrev links : LinksView
links = record { net = two_nodes; places = table; links = link 0 [] ∷ link 1 (Noise ∷ []) ∷ link 1 [] ∷ link 1 [] ∷ link 1 [] ∷ []; spares = 3 ∷ 4 ∷ [] }

out-and_back : (value_at table 0 1 ≡ 1) × (value_at table 1 0 ≡ 2)
out-and_back = (refl, refl)

-- no node is joined to itself, nor to an id without a node
no-place : (value_at table 0 0 ≡ 0) × (value_at table 1 1 ≡ 0)
no-place = (refl, refl)

-- each direction has its own link
between-two : (link_between links 0 1 ≡ link 1 (Noise ∷ [])) × (link_between links 1 0 ≡ link 1 [])
between-two = (refl, refl)

between_not-turned : ¬ (link_between links 1 0 ≡ link 1 (Noise ∷ []))
between_not-turned e = let items : ◌≡◌ {A = List Item} [] (Noise ∷ []) = ap (λ (l : LinkView). l.items) e in absurd cc

-- the first link is marked by its capacity: it stands for the link of a node to itself, and for
-- one that would come from no node
abbrev marked : LinksView
marked = record links { links = link 7 [] ∷ link 1 [] ∷ link 1 [] ∷ [] }

between-missing : (link_between marked 0 0 ≡ link 7 []) × (link_between marked 2 0 ≡ link 7 [])
between-missing = (refl, refl)

one-under_way : under_way links 0 1 ≡ Noise ∷ []
one-under_way = refl

nothing-back : under_way links 1 0 ≡ []
nothing-back = refl

-- 0 and 2 would have the place of 1 and 0, but nothing is under way to an id without a node
nothing-to_no_node : under_way links 0 2 ≡ []
nothing-to_no_node = refl

one-pair_spare : spare_pairs links ≡ 1
one-pair_spare = refl

-- ---- spare places

spare-there : IsSpare two_nodes links.links 3
spare-there = record { there = omega arith; empty = refl }

-- a place on which an item is under way is not spare, nor is one after the last
not-spare : IsSpare two_nodes links.links 1 → ⊥
not-spare s = let items : ◌≡◌ {A = List Item} (Noise ∷ []) [] = ap (λ (l : LinkView). l.items) s.empty in absurd cc

not-there : IsSpare two_nodes links.links 5 → ⊥
not-there s = let there = s.there in omega (arith, there)

each : (P : ℕ → Type 0) → P 0 → P 1 → (k : ℕ) → k < 2 → P k
each P a b zero l = a
each P a b (suc zero) l = b
each P a b (suc (suc k)) l = absurd (omega arith)

-- two links are made and stocked
stocked : AreStocked 1 2 (link 0 [] ∷ link 1 [] ∷ link 1 [] ∷ []) (1 ∷ 2 ∷ [])
stocked = record {
  all_links = refl;
  all_spares = refl;
  first = refl;
  empty = each (λ k. slice_index_or (link 0 [] ∷ link 1 [] ∷ link 1 [] ∷ []) (k + 1) (link 0 []) ≡ link 1 []) refl refl;
  places = each (λ k. slice_index_or (1 ∷ 2 ∷ []) k 0 ≡ k + 1) refl refl;
}

not-stocked : AreStocked 1 2 (link 0 [] ∷ link 1 [] ∷ link 1 [] ∷ []) (1 ∷ []) → ⊥
not-stocked s = let all : 1 ≡ 2 = s.all_spares in omega (arith, all)

-- ---- all links of a network

each-pair : (P : ℕ → ℕ → Type 0) → P 0 0 → P 0 1 → P 1 0 → P 1 1 → (u v : ℕ) → u < 2 → v < 2 → P u v
each-pair P a b c d u v lu lv = each (λ u. P u v) (each (P 0) a b v lv) (each (P 1) c d v lv) u lu

abbrev place : ℕ → ℕ → ℕ
place u v = value_at table u v

-- two pairs have one place only if they are one pair, or have no link
abbrev AreApart : (u v i j : ℕ) → Type 0
AreApart u v i j = place u v ≡ place i j → ((u ≡ i) × (v ≡ j)) ⊎ (place u v ≡ 0)

abbrev AreApartFrom : (u v : ℕ) → Type 0
AreApartFrom u v = (i j : ℕ) → i < 2 → j < 2 → AreApart u v i j

apart-all : (u v : ℕ) → u < 2 → v < 2 → AreApartFrom u v
apart-all = each-pair AreApartFrom
    (each-pair (AreApart 0 0) (λ e. inr refl) (λ e. inr refl) (λ e. inr refl) (λ e. inr refl))
    (each-pair (AreApart 0 1) (λ e. absurd (omega (arith, e))) (λ e. inl (refl, refl)) (λ e. absurd (omega (arith, e))) (λ e. absurd (omega (arith, e))))
    (each-pair (AreApart 1 0) (λ e. absurd (omega (arith, e))) (λ e. absurd (omega (arith, e))) (λ e. inl (refl, refl)) (λ e. absurd (omega (arith, e))))
    (each-pair (AreApart 1 1) (λ e. inr refl) (λ e. inr refl) (λ e. inr refl) (λ e. inr refl))

abbrev capacity_at : ℕ → ℕ → ℕ
capacity_at u v = (slice_index_or links.links (place u v) (link 0 [])).capacity

placed : ArePlaced two_nodes (are_joined two_nodes.edges) table links.links (3 ∷ 4 ∷ [])
placed = record {
  table = refl;
  inside = each-pair (λ u v. place u v < 5) (omega arith) (omega arith) (omega arith) (omega arith);
  apart = λ u v i j lu lv li lj. apart-all u v lu lv i j li lj;
  none = refl;
  capacity = each-pair (λ u v. capacity_at u v ≡ (if are_joined two_nodes.edges u v then 1 else 0)) refl refl refl refl;
  spare = each (λ k. IsSpare two_nodes links.links (slice_index_or (3 ∷ 4 ∷ []) k 0)) spare-there (record { there = omega arith; empty = refl });
  free = λ k u v lk lu lv. each (λ k. place u v ≢ slice_index_or (3 ∷ 4 ∷ []) k 0)
      (each-pair (λ u v. place u v ≢ 3) (λ e. omega (arith, e)) (λ e. omega (arith, e)) (λ e. omega (arith, e)) (λ e. omega (arith, e)) u v lu lv)
      (each-pair (λ u v. place u v ≢ 4) (λ e. omega (arith, e)) (λ e. omega (arith, e)) (λ e. omega (arith, e)) (λ e. omega (arith, e)) u v lu lv) k lk;
  distinct = each-pair (λ j k. slice_index_or (3 ∷ 4 ∷ []) j 0 ≡ slice_index_or (3 ∷ 4 ∷ []) k 0 → j ≡ k)
      (λ e. refl) (λ e. absurd (omega (arith, e))) (λ e. absurd (omega (arith, e))) (λ e. refl);
}

-- a place that is a pair's is not spare
not-placed : ArePlaced two_nodes (are_joined two_nodes.edges) table links.links (1 ∷ []) → ⊥
not-placed p = not-spare (p.spare 0 (omega arith))

all-links : IsLinks links
all-links = record {
  network = is-accepted;
  placed = placed;
  count = refl;
  within = search arith;
  fits = search arith;
}

-- the edges of a network have two links each
not-links : IsLinks (record links { spares = [] }) → ⊥
not-links l = let count : 5 ≡ 3 = l.count in omega (arith, count)

-- ---- pairs that are joined

one-way : joined_too (λ u v. false) 0 1 0 1 ≡ true
one-way = refl

not-back : joined_too (λ u v. false) 0 1 1 0 ≡ false
not-back = refl

those-before : joined_too (λ u v. true) 0 1 1 0 ≡ true
those-before = refl
