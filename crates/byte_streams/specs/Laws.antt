-- Laws of sources.
use Rattle.std.specs.Prelude.{◌≡◌, ℕ, ◌+◌, ◌<◌, ◌≤◌, List, [], ◌++◌, Option, Some, take, length}
use Rattle.byte_streams.specs.Streams.{Gives, HasRead}

-- A text is read in pieces: after what has been read comes what the next read gives, and at a read
-- that has room and gives nothing, all has been read.
pub record PiecesMakeTheText : Type 0 where
  pub more : (bytes : List ℕ) (n count : ℕ) (before after : Option (List ℕ)) (buffer : List ℕ)
      → HasRead n bytes before → Gives count before after buffer → HasRead (n + count) bytes after
  pub next : (bytes : List ℕ) (n count k : ℕ) (before after : Option (List ℕ)) (buffer : List ℕ)
      → HasRead n bytes before → Gives count before after buffer → k ≤ count
      → take n bytes ++ take k buffer ≡ take (n + k) bytes
  pub end : (bytes : List ℕ) (n : ℕ) (before after : Option (List ℕ)) (buffer : List ℕ)
      → HasRead n bytes before → Gives 0 before after buffer → 0 < length buffer
      → (after ≡ Some []) × (n ≡ length bytes)
