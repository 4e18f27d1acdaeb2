-- Reading from the front of bytes that more may follow, as a reader that holds a page of them does.
use Rattle.std.specs.Prelude.{◌≡◌, ℕ, ◌*◌, ◌<◌, ◌≤◌, List, ◌++◌, length, Result, Ok, Err}
use Rattle.leb128.specs.declared.unread.Unread.{Unread}
use Rattle.leb128.specs.declared.unread.Unread.TheVariants.{Short, Invalid}
use Rattle.leb128.specs.Reading.{number_at, numbers_at}

-- The first is what is read from some bytes, the second what is read if more follow: the same, and
-- then those are left too. Only bytes that were short may be read differently.
abbrev pub IsKept : {X : Type 0} → List ℕ → Result (X × List ℕ) Unread → Result (X × List ℕ) Unread → Type 0
IsKept more (Ok x) longer = longer ≡ Ok (x.0, x.1 ++ more)
IsKept more (Err Short) longer = Unit {0}
IsKept more (Err Invalid) longer = longer ≡ Err Invalid

-- what is read from some bytes takes at most `most` of them, those in front; and only fewer than
-- `most` bytes are short
abbrev pub IsOfAtMost : {X : Type 0} → ℕ → List ℕ → Result (X × List ℕ) Unread → Type 0
IsOfAtMost most bytes (Ok x) =
    (front : List ℕ) × (bytes ≡ front ++ x.1) × (length front ≤ most)
IsOfAtMost most bytes (Err Short) = length bytes < most
IsOfAtMost most bytes (Err Invalid) = Unit {0}

-- a number is read from a piece of the bytes, and so are numbers in a row
pub record AreReadInPieces : Type 0 where
  pub one : (bytes more : List ℕ) → IsKept more (number_at bytes) (number_at (bytes ++ more))
  pub row : (count : ℕ) (bytes more : List ℕ)
      → IsKept more (numbers_at count bytes) (numbers_at count (bytes ++ more))
  pub one_most : (bytes : List ℕ) → IsOfAtMost 10 bytes (number_at bytes)
  pub row_most : (count : ℕ) (bytes : List ℕ) → IsOfAtMost (10 * count) bytes (numbers_at count bytes)
