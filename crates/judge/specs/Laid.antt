-- Places of tallies, laid one after the other.
use Rattle.std.specs.Prelude.{◌≡◌, ℕ, ◌<◌, ◌⊎◌, Bool, IsTrue}
use Rattle.configuration.specs.PairTable.{PairTableView, value_at}
use Rattle.judge.specs.Tallies.{has_place}

-- All places are below `next`, and different pairs have different places, unless they have the
-- first. Each pair joined so far has its own place.
pub record IsLaid (nodes : ℕ) (is_joined : ℕ → ℕ → Bool) (table : PairTableView) (next : ℕ) : Type 0 where
  pub nodes_are : table.nodes ≡ nodes
  pub inside : (u v : ℕ) → v < nodes → value_at table u v < next
  pub apart : (u v i j : ℕ) → v < nodes → j < nodes
      → value_at table u v ≡ value_at table i j → ((u ≡ i) × (v ≡ j)) ⊎ (value_at table u v ≡ 0)
  pub placed : (u v : ℕ) → v < nodes → IsTrue (is_joined u v) → IsTrue (has_place table u v)
