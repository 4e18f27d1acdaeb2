-- The words of a line.
use Rattle.std.specs.Prelude.{ℕ, suc, Bool, ◌==◌, if◌then◌else◌, List, [], ◌∷◌, Option, Some, None}
use Rattle.std.specs.Option.{option_and_then}

abbrev pub Word : Type 0
Word = List ℕ

-- the byte that separates words
abbrev pub is_space : ℕ → Bool
is_space byte = byte == 32

-- a byte in front of the first word
abbrev pub onto_first : ℕ → List Word → List Word
onto_first byte [] = (byte ∷ []) ∷ []
onto_first byte (word ∷ words) = (byte ∷ word) ∷ words

-- the words of a line: what is between its spaces, so two spaces in a row have an empty word
-- between them
abbrev pub words : List ℕ → List Word
words [] = [] ∷ []
words (byte ∷ bytes) = if is_space byte then [] ∷ words bytes else onto_first byte (words bytes)

-- how long the first word is
abbrev pub word_len : List ℕ → ℕ
word_len [] = 0
word_len (byte ∷ bytes) = if is_space byte then 0 else suc (word_len bytes)

abbrev pub first_word : List Word → Option Word
first_word [] = None
first_word (word ∷ words) = Some word

abbrev pub other_words : List Word → List Word
other_words [] = []
other_words (word ∷ words) = words

-- the next word is read, and the others are read with what it says
abbrev pub reads : {X Y : Type 0} → (Word → Option X) → (X → List Word → Option Y) → List Word → Option Y
reads read others words = option_and_then (λ x. others x (other_words words)) (option_and_then read (first_word words))

-- no word is left
abbrev pub ends : {Y : Type 0} → Y → List Word → Option Y
ends y [] = Some y
ends y (word ∷ words) = None
