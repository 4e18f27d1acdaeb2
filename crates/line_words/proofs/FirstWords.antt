-- The first word of a line, and the words after it.
use Rattle.std.proofs.Common.{◌≡◌, ℕ, suc, ◌+◌, ◌<◌, ◌≤◌, List, [], ◌∷◌, length, take, drop, Option, Some, None, Bor, slice_range, inl, inr, refl, sym, add-one, arith}
use Rattle.std.specs.List.{PartBy}
use Rattle.std.specs.Option.{option_map_or}
use Rattle.std.proofs.lemmas.Grind.{common_steps}
use Rattle.std.proofs.lemmas.Bool.Decides.{nat_tests}
use Rattle.line_words.specs.Words.{Word, words, onto_first, word_len, first_word, other_words, ends}

pub word_len-le : (line : List ℕ) → word_len line ≤ length line
word_len-le [] = omega arith
word_len-le (x ∷ line) = grind (arith, common_steps, nat_tests, word_len-le line)

-- the first word of a line is its first bytes
pub first-words : (line : List ℕ) → first_word (words line) ≡ Some (take (word_len line) line)
first-words [] = refl
first-words (x ∷ line) = grind (arith, common_steps, nat_tests, first-words line)

others-onto : (x : ℕ) (ws : List Word) → other_words (onto_first x ws) ≡ other_words ws
others-onto x [] = refl
others-onto x (w ∷ ws) = refl

-- the other words are those after the space, or none
pub other-words : (line : List ℕ) → word_len line < length line → other_words (words line) ≡ words (drop (suc (word_len line)) line)
other-words [] h = absurd (omega arith)
other-words (x ∷ line) h = grind (arith, nat_tests, others-onto x (words line), other-words line)

pub no-words : (line : List ℕ) → word_len line ≡ length line → other_words (words line) ≡ []
no-words [] e = refl
no-words (x ∷ line) e = grind (arith, common_steps, nat_tests, no-words line)

to-the-end : (line : List ℕ) (i : ℕ) → slice_range line i (length line) ≡ drop i line
to-the-end line i = grind (arith, common_steps)

-- what is left after a first word of this length, as `get` gives it
pub after-first : (line : List ℕ) (k : ℕ) (r : Option (Bor (List ℕ))) → k ≡ word_len line → k ≤ length line
    → PartBy (λ (x : Bor (List ℕ)). x.now) line (k + 1) (length line) r
    → option_map_or (λ rest. words rest.now) r [] ≡ other_words (words line)
after-first line k None e w (inl few, some) = sym (no-words line (omega arith))
after-first line k None e w (inr never, some) = absurd (omega arith)
after-first line k (Some x) e w ((more, all, is, len), some) =
    rw (is, to-the-end line (k + 1), add-one, e) (sym (other-words line (omega arith)))

ends-onto : {Y : Type 0} → (y : Y) (x : ℕ) (ws : List Word) → ends y (onto_first x ws) ≡ None
ends-onto y x [] = refl
ends-onto y x (w ∷ ws) = refl

-- a line has at least one word
pub ends-words : {Y : Type 0} → (y : Y) (line : List ℕ) → ends y (words line) ≡ None
ends-words y [] = refl
ends-words y (x ∷ line) = grind (arith, nat_tests, ends-onto y x (words line))
