-- The laws of numbers in a row.
use Rattle.std.specs.Prelude.{◌≡◌, ℕ, ◌^◌, ◌<◌, List, ◌∷◌, ◌++◌, length, Ok, Err}
use Rattle.std.specs.List.{AllByRecursion}
use Rattle.leb128.specs.declared.unread.Unread.TheVariants.{Short}
use Rattle.leb128.specs.Spelling.{leb128, in_a_row}
use Rattle.leb128.specs.Reading.{number_at, numbers_at}

-- each is a number of 64 bits; each is a byte
abbrev pub AreWide : List ℕ → Type 0
AreWide ns = AllByRecursion (λ n. n < 2 ^ 64) ns

abbrev pub AreBytes : List ℕ → Type 0
AreBytes bytes = AllByRecursion (λ b. b < 256) bytes

-- a number that was written is read again, whatever follows, and so are numbers in a row
pub record AreReadAgain : Type 0 where
  pub one : (n : ℕ) (rest : List ℕ) → n < 2 ^ 64 → number_at (leb128 n ++ rest) ≡ Ok (n, rest)
  pub row : (ns rest : List ℕ) → AreWide ns
      → numbers_at (length ns) (in_a_row ns ++ rest) ≡ Ok (ns, rest)

-- if the bytes are cut before their end, they are short
pub record CutAreShort : Type 0 where
  pub one : (n : ℕ) (front : List ℕ) (b : ℕ) (back : List ℕ) → leb128 n ≡ front ++ b ∷ back
      → number_at front ≡ Err Short
  pub row : (ns front : List ℕ) (b : ℕ) (back : List ℕ) → AreWide ns
      → in_a_row ns ≡ front ++ b ∷ back → numbers_at (length ns) front ≡ Err Short

-- these numbers, `count` of them, were spelled in front of the rest
pub record AreSpelled (count : ℕ) (bytes ns rest : List ℕ) : Type 0 where
  pub parts : bytes ≡ in_a_row ns ++ rest
  pub count_is : length ns ≡ count
  pub wide : AreWide ns
  pub bytes_left : AreBytes rest

-- what is read was spelled like this
pub record WhatIsReadIsSpelled : Type 0 where
  pub one : (bytes : List ℕ) (n : ℕ) (rest : List ℕ) → AreBytes bytes
      → number_at bytes ≡ Ok (n, rest)
      → (bytes ≡ leb128 n ++ rest) × (n < 2 ^ 64) × AreBytes rest
  pub row : (count : ℕ) (bytes ns rest : List ℕ) → AreBytes bytes
      → numbers_at count bytes ≡ Ok (ns, rest) → AreSpelled count bytes ns rest
