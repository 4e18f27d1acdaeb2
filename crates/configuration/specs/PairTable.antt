-- What contracts see of a table of numbers by two nodes' ids.
use Rattle.std.specs.Prelude.{ℕ, ◌+◌, ◌*◌, List, slice_index_or}

-- the number of nodes, and n numbers for each: those of the pairs that begin with it
pub record PairTableView : Type 0 where
  pub nodes : ℕ
  pub values : List ℕ

-- the place of the pair of u and v
abbrev pub place_of : ℕ → ℕ → ℕ → ℕ
place_of nodes u v = u * nodes + v

-- the number of u and v, if v is a node; 0 if u is no node
abbrev pub value_at : PairTableView → ℕ → ℕ → ℕ
value_at t u v = slice_index_or t.values (place_of t.nodes u v) 0
