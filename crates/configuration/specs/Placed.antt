-- The places of the links of a network: joined nodes have places of their own, and the other
-- places are spare.
use Rattle.std.specs.Prelude.{◌≡◌, ◌≢◌, ℕ, ◌+◌, ◌<◌, ◌⊎◌, ◌==◌, ◌||◌, ◌&&◌, Bool, if◌then◌else◌, List, [], length, slice_index_or}
use Rattle.topology.specs.Network.{Network}
use Rattle.run_model.specs.link_model.Link.{LinkView, link}
use Rattle.configuration.specs.PairTable.{PairTableView, value_at}

-- one more pair is joined, in one direction: the links of an edge are laid one after the other
abbrev pub joined_too : (ℕ → ℕ → Bool) → ℕ → ℕ → ℕ → ℕ → Bool
joined_too is_joined a b u v = is_joined u v || ((u == a) && (v == b))

-- the place has an empty link of the network's capacity
pub record IsSpare (net : Network) (links : List LinkView) (place : ℕ) : Type 0 where
  pub there : place < length links
  pub empty : slice_index_or links place (link 0 []) ≡ link net.capacity []

-- Each joined pair has its own link of the network's capacity; all others have the first, which
-- has no places. A spare place is no pair's, and is listed once.
pub record ArePlaced (net : Network) (is_joined : ℕ → ℕ → Bool) (places : PairTableView) (links : List LinkView) (spares : List ℕ) : Type 0 where
  pub table : places.nodes ≡ net.nodes
  pub inside : (u v : ℕ) → u < net.nodes → v < net.nodes → value_at places u v < length links
  pub apart : (u v i j : ℕ) → u < net.nodes → v < net.nodes → i < net.nodes → j < net.nodes
      → value_at places u v ≡ value_at places i j → ((u ≡ i) × (v ≡ j)) ⊎ (value_at places u v ≡ 0)
  pub none : (slice_index_or links 0 (link 0 [])).capacity ≡ 0
  pub capacity : (u v : ℕ) → u < net.nodes → v < net.nodes
      → (slice_index_or links (value_at places u v) (link 0 [])).capacity ≡ (if is_joined u v then net.capacity else 0)
  pub spare : (k : ℕ) → k < length spares → IsSpare net links (slice_index_or spares k 0)
  pub free : (k u v : ℕ) → k < length spares → u < net.nodes → v < net.nodes → value_at places u v ≢ slice_index_or spares k 0
  pub distinct : (j k : ℕ) → j < length spares → k < length spares → slice_index_or spares j 0 ≡ slice_index_or spares k 0 → j ≡ k

-- `count` links are made, after the first, and all of them are spare
pub record AreStocked (capacity count : ℕ) (links : List LinkView) (spares : List ℕ) : Type 0 where
  pub all_links : length links ≡ count + 1
  pub all_spares : length spares ≡ count
  pub first : slice_index_or links 0 (link 0 []) ≡ link 0 []
  pub empty : (k : ℕ) → k < count → slice_index_or links (k + 1) (link 0 []) ≡ link capacity []
  pub places : (k : ℕ) → k < count → slice_index_or spares k 0 ≡ k + 1
