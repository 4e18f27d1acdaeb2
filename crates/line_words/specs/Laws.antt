-- Laws of words and numbers: each number has one spelling, and a line is its words.
use Rattle.std.specs.Prelude.{◌≡◌, ℕ, ◌<◌, Some}
use Rattle.std.specs.Fmt.{decimal}
use Rattle.std.specs.List.{join_with_byte}
use Rattle.line_words.specs.Words.{Word, words}
use Rattle.line_words.specs.Numbers.{number}

-- a number below 65536 is read from its decimal spelling
abbrev pub NumbersAreRead : Type 0
NumbersAreRead = (n : ℕ) → n < 65536 → number (decimal n) ≡ Some n

-- and from no other word
abbrev pub NumbersHaveOneSpelling : Type 0
NumbersHaveOneSpelling = (word : Word) (n : ℕ) → number word ≡ Some n → (n < 65536) × (word ≡ decimal n)

-- the words of a line, with a space between each two, are the line
abbrev pub WordsMakeTheLine : Type 0
WordsMakeTheLine = (line : Word) → join_with_byte 32 (words line) ≡ line
