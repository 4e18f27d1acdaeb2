-- What contracts see of a source over memory.
use Rattle.std.specs.Prelude.{ℕ, List}

-- the bytes that it has still to give, and how many of them one read gives at most
pub record MemorySourceView : Type 0 where
  pub rest : List ℕ
  pub piece : ℕ
