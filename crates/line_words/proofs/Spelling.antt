-- Each number and each line has one spelling.
use Rattle.std.proofs.Common.{rules, ◌≡◌, ◌≢◌, ℕ, zero, suc, ◌<◌, Bool, true, false, ◌&&◌, List, [], ◌∷◌, length, get_or, nat_le, Option, Some, None, refl, ap, sym, ◌∙◌, arith}
use Rattle.std.specs.Prelude.{if◌then◌else◌}
use Rattle.std.specs.List.{list_all, join_with_byte}
use Rattle.std.specs.Char.{is_ascii_digit}
use Rattle.std.specs.Fmt.{decimal}
use Rattle.std.specs.Str.Parse.{digits_value}
use Rattle.std.proofs.lemmas.Bool.Decides.{nat_tests}
use Rattle.std.proofs.lemmas.Fmt.{digits_decimal, digits_value-decimal, decimal-digits_value, decimal_nonempty, first_decimal, decimal_digit}
use Rattle.std.proofs.lemmas.Str.Parse.{IsNumeralModel, IsDigitsTest, numerals_by_value}
use Rattle.line_words.specs.Words.{Word, words, onto_first}
use Rattle.line_words.specs.Numbers.{number, are_digits, has_leading_zero}

abbrev pub AreDigits : List ℕ → Type 0
AreDigits ds = list_all is_ascii_digit ds ≡ true

says : IsDigitsTest AreDigits
says = search rules

pub own : IsNumeralModel AreDigits (digits_value 10)
own = numerals_by_value AreDigits says

-- what decimal spells are digits with no leading zero
digits-decimal : (n : ℕ) → n < 65536 → are_digits (decimal n) ≡ true
digits-decimal n h = not-empty (decimal n) (decimal_nonempty n (omega arith)) (digits_decimal own n (omega arith))
  where
    not-empty : (ds : List ℕ) → 0 < length ds → AreDigits ds → are_digits ds ≡ true
    not-empty [] some d = absurd (omega arith)
    not-empty (x ∷ ds) some d = d

above-zero : (ds : List ℕ) → 48 < get_or ds 0 0 → has_leading_zero ds ≡ false
above-zero [] above = refl
above-zero (x ∷ []) above = refl
above-zero (x ∷ y ∷ ds) above = grind (arith, nat_tests)

no-leading : (n : ℕ) → n < 65536 → has_leading_zero (decimal n) ≡ false
no-leading zero h = rw (decimal_digit 0 (omega arith)) refl
no-leading (suc n) h = above-zero (decimal (suc n)) (first_decimal (suc n) (omega arith) (omega arith))

-- a number is read from its spelling
pub numbers-read : (n : ℕ) → n < 65536 → number (decimal n) ≡ Some n
numbers-read n h =
    let same : digits_value 10 (decimal n) ≡ n = digits_value-decimal own n (omega arith) in
    let small : nat_le n 65535 ≡ true = grind (arith, nat_tests) in
    rw (no-leading n h, digits-decimal n h, same, small) refl

-- and from nothing else
pub are-digits : (word : Word) → are_digits word ≡ true → (0 < length word) × AreDigits word
are-digits [] d = absurd (cc)
are-digits (x ∷ word) d = (omega arith, d)

lone-zero : (word : Word) → has_leading_zero word ≡ false → get_or word 0 0 ≡ 48 → 0 < length word → length word ≡ 1
lone-zero [] no_zero is_zero some = absurd (omega arith)
lone-zero (x ∷ []) no_zero is_zero some = refl
lone-zero (x ∷ y ∷ word) no_zero is_zero some = grind (arith, nat_tests)

parts-of : (zero_first digits : Bool) (value n : ℕ)
    → ◌≡◌ {A = Option ℕ} (if zero_first then None else if digits && nat_le value 65535 then Some value else None) (Some n)
    → (zero_first ≡ false) × (digits ≡ true) × (value < 65536) × (value ≡ n)
parts-of zero_first digits value n e = grind (arith, nat_tests)

pub numbers-spelled : (word : Word) (n : ℕ) → number word ≡ Some n → (n < 65536) × (word ≡ decimal n)
numbers-spelled word n e =
    let (no_zero, digits, small, same) = parts-of (has_leading_zero word) (are_digits word) (digits_value 10 word) n e in
    let (some, d) = are-digits word digits in
    (rw (← same) small, sym (decimal-digits_value own word d some (λ is_zero. lone-zero word no_zero is_zero some) (omega arith)) ∙ ap decimal same)

-- the words make the line
join-onto : (x : ℕ) (ws : List Word) → join_with_byte 32 (onto_first x ws) ≡ x ∷ join_with_byte 32 ws
join-onto x [] = refl
join-onto x (w ∷ []) = refl
join-onto x (w ∷ v ∷ ws) = refl

join-space : (ws : List Word) → ws ≢ [] → join_with_byte 32 ([] ∷ ws) ≡ 32 ∷ join_with_byte 32 ws
join-space [] some = absurd (some refl)
join-space (w ∷ ws) some = refl

onto-some : (x : ℕ) (ws : List Word) → onto_first x ws ≢ []
onto-some x [] e = cc
onto-some x (w ∷ ws) e = cc

words-some : (line : List ℕ) → words line ≢ []
words-some [] e = cc
words-some (x ∷ line) e = grind (arith, nat_tests, onto-some x (words line))

pub join-words : (line : List ℕ) → join_with_byte 32 (words line) ≡ line
join-words [] = refl
join-words (x ∷ line) = grind (arith, nat_tests, join-onto x (words line), join-space (words line), words-some line, join-words line)
