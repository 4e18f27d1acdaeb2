-- Which number a word spells.
use Rattle.std.specs.Prelude.{◌≡◌, ◌≢◌, ◌≤◌, ℕ, List, Option, Some, None, decimal}

-- the word is the decimal spelling of the number, which is in the range; no number is read from a word that spells
-- none in the range
abbrev pub IsRead : ℕ → ℕ → List ℕ → Option ℕ → Type 0
IsRead least most word (Some number) = (least ≤ number) × (number ≤ most) × (word ≡ decimal number)
IsRead least most word None = (number : ℕ) → least ≤ number → number ≤ most → word ≢ decimal number
