-- The meaning of the words that a parser took from a command line: `first_value` is the word of a
-- parameter.
use Rattle.std.specs.Prelude.{◌≡◌, ◌≢◌, ◌≤◌, ◌⊎◌, ℕ, List, Option, Some, None, Result, Ok, Err, Bool, true, false, codes, decimal}
use Rattle.std.specs.Borrow.{Bor}
use Rattle.clap.specs.Matches.{first_value, one_text}
use Rattle.clap.specs.declared.parser.matches.Found.{Found}
use Rattle.command_grammar.specs.declared.number.Number.{Number}
use Rattle.command_grammar.specs.declared.words.WordFault.{WordFault}
use Rattle.command_grammar.specs.declared.words.WordFault.TheVariants.{Absent, NoNumber}

-- the parameter has this word; or it has none
abbrev pub IsWord : Found → Bor (List ℕ) → Result (Bor (List ℕ)) WordFault → Type 0
IsWord found id (Ok word) = first_value found id.now ≡ Some word.now
IsWord found id (Err fault) = (first_value found id.now ≡ None) × (fault ≡ Absent id)

-- the parameter's word is the number's decimal spelling, and the number is in the range; or it has no word
abbrev pub IsGiven : Found → List ℕ → ℕ → ℕ → Option ℕ → Type 0
IsGiven found id least most (Some value) = (least ≤ value) × (value ≤ most) × (first_value found id ≡ Some (decimal value))
IsGiven found id least most None = first_value found id ≡ None

-- the parameter's number if it has a word, and the usual one if not
abbrev pub IsGivenOr : Found → List ℕ → ℕ → ℕ → ℕ → ℕ → Type 0
IsGivenOr found id least most usual value = IsGiven found id least most (Some value) ⊎ ((first_value found id ≡ None) × (value ≡ usual))

-- the parameter has a word, which is the decimal spelling of no number in the range
abbrev pub IsUnread : Found → List ℕ → ℕ → ℕ → Type 0
IsUnread found id least most =
    (word : List ℕ) × (first_value found id ≡ Some word) × ((value : ℕ) → least ≤ value → value ≤ most → word ≢ decimal value)

-- the fault names the parameter, which has no word or one that is no number in the range
abbrev pub IsRefused : Found → List ℕ → ℕ → ℕ → WordFault → Type 0
IsRefused found id least most (NoNumber asked) = (asked.id.now ≡ id) × IsUnread found id least most
IsRefused found id least most (Absent missing) = (missing.now ≡ id) × (first_value found id ≡ None)

-- the number that must be given
abbrev pub IsNumber : Found → Number → Result ℕ WordFault → Type 0
IsNumber found number (Ok value) = IsGiven found number.id.now number.least number.most (Some value)
IsNumber found number (Err fault) = IsRefused found number.id.now number.least number.most fault

-- the number that may be left out
abbrev pub IsNumberIfGiven : Found → Number → Result (Option ℕ) WordFault → Type 0
IsNumberIfGiven found number (Ok value) = IsGiven found number.id.now number.least number.most value
IsNumberIfGiven found number (Err fault) = (fault ≡ NoNumber number) × IsUnread found number.id.now number.least number.most

-- a flag is given if the parser took `true` for it, and not if it took `false` or nothing
abbrev pub IsFlag : Found → List ℕ → Bool → Type 0
IsFlag found id flag =
    (one_text found id ≡ None → flag ≡ false)
    × (one_text found id ≡ Some (codes "true") → flag ≡ true)
    × (one_text found id ≡ Some (codes "false") → flag ≡ false)
