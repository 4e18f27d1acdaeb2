-- A set of node ids as the bits of a number: id i is in it if bit i is 1.
use Rattle.std.specs.Prelude.{ℕ, ◌==◌, Bool, List, filter}
use Rattle.std.specs.Int.{bit_at}
use Rattle.std.specs.List.{range_with_len}

-- there are at most 64 nodes
abbrev pub has_id : ℕ → ℕ → Bool
has_id mask id = bit_at mask id == 1

-- the ids of a mask, ascending; no proof needs to look at all 64 of them
unfoldable pub ids_of : ℕ → List ℕ
ids_of mask = filter (has_id mask) (range_with_len 0 64)
