-- Small examples of words and numbers, and words that spell none.
use Rattle.std.proofs.Common.{◌≡◌, ℕ, List, Option, true, false, [], ◌∷◌, map, replicate, Some, None, refl, codes}
use Rattle.line_words.specs.Words.{Word, is_space, onto_first, words, first_word, other_words, reads, ends}
use Rattle.line_words.specs.Numbers.{are_digits, digits_up_to, has_leading_zero, number, number_or_none, yes_or_no}

-- a word is a list of bytes, the first byte first
abbrev go : Word
go = 103 ∷ 111 ∷ []

word-bytes : words (codes "go 1") ≡ go ∷ (49 ∷ []) ∷ []
word-bytes = refl

-- not every word has a byte
word_not-some : ¬ ((word : Word) → ¬ (word ≡ []))
word_not-some some = some [] refl

-- a space separates words, and a letter does not
space : map is_space (codes "a b") ≡ false ∷ true ∷ false ∷ []
space = refl

-- a tab, a line end and the bytes next to a space do not either
space_not-tab : map is_space (9 ∷ 10 ∷ 31 ∷ 33 ∷ []) ≡ replicate 4 false
space_not-tab = refl

-- a byte comes in front of the first word's bytes, and the other words stay
onto-first : onto_first 97 (codes "bc" ∷ codes "d" ∷ []) ≡ codes "abc" ∷ codes "d" ∷ []
onto-first = refl

-- it is the whole first word if that was empty, and if there was no word
onto-empty : onto_first 97 ([] ∷ codes "d" ∷ []) ≡ codes "a" ∷ codes "d" ∷ []
onto-empty = refl

onto-none : onto_first 97 [] ≡ codes "a" ∷ []
onto-none = refl

-- two spaces have an empty word between them, and a space at the end has one after it
words-two : words (codes "tick 0") ≡ codes "tick" ∷ codes "0" ∷ []
words-two = refl

words-empty : words (codes "a  b ") ≡ codes "a" ∷ [] ∷ codes "b" ∷ [] ∷ []
words-empty = refl

-- an empty line has one word, and nothing ends before it
words-none : words [] ≡ [] ∷ []
words-none = refl

ends-not : ends true (words []) ≡ None
ends-not = refl

ends-all : ends true (other_words (words (codes "tick"))) ≡ Some true
ends-all = refl

first-left : first_word (other_words (words (codes "tick 0"))) ≡ Some (codes "0")
first-left = refl

-- digits, with zeros in front or not, and words of other bytes
digits : map are_digits (codes "07" ∷ [] ∷ codes "-7" ∷ []) ≡ true ∷ false ∷ false ∷ []
digits = refl

up-to : map (digits_up_to 59) (codes "059" ∷ codes "60" ∷ []) ≡ Some 59 ∷ None ∷ []
up-to = refl

-- a zero leads if any other byte comes after it
zeros-lead : map has_leading_zero (codes "07" ∷ codes "00" ∷ codes "0x" ∷ []) ≡ replicate 3 true
zeros-lead = refl

-- a zero alone does not lead, nor does one at the end; the other two words have no zero
zeros_not-alone : map has_leading_zero (codes "0" ∷ codes "70" ∷ codes "7" ∷ [] ∷ []) ≡ replicate 4 false
zeros_not-alone = refl

-- numbers
numbers : map number (codes "0" ∷ codes "65535" ∷ []) ≡ Some 0 ∷ Some 65535 ∷ []
numbers = refl

-- words that are none: too great, zeros in front, a sign, no digit, and the word that says that there is none
not-numbers : map number (codes "65536" ∷ codes "00" ∷ codes "07" ∷ codes "+7" ∷ [] ∷ codes "none" ∷ []) ≡ replicate 6 None
not-numbers = refl

-- `none` is no number, but a word that says so; any other word is neither
number-or-none : map number_or_none (codes "none" ∷ codes "7" ∷ codes "None" ∷ []) ≡ Some None ∷ Some (Some 7) ∷ None ∷ []
number-or-none = refl

yes-or-no : map yes_or_no (codes "yes" ∷ codes "no" ∷ codes "y" ∷ []) ≡ Some true ∷ Some false ∷ None ∷ []
yes-or-no = refl

-- two numbers and no more
abbrev two_numbers : List Word → Option (ℕ × ℕ)
two_numbers = reads number (λ a. reads number (λ b. ends (a, b)))

-- the next word is read first, and what it says is known when the others are read
reads-both : two_numbers (words (codes "7 12")) ≡ Some (7, 12)
reads-both = refl

-- nothing is read if the next word or another is no number, or is missing, or if one is left
reads_not-some :
    map two_numbers (words (codes "x 12") ∷ words (codes "7 x") ∷ words (codes "7") ∷ words (codes "7 12 3") ∷ [] ∷ [])
    ≡ replicate 5 None
reads_not-some = refl
