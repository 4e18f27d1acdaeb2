-- What contracts see of a sink over memory.
use Rattle.std.specs.Prelude.{ℕ, List}

-- the bytes that it has taken, for how many more there is room, and how often it has failed
pub record MemorySinkView : Type 0 where
  pub taken : List ℕ
  pub room : ℕ
  pub failures : ℕ
