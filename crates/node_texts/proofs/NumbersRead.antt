-- Each status line whose numbers are below 65536 is read from its text.
use Rattle.std.proofs.Common.{◌≡◌, ℕ, ◌<◌, Bool, true, false, not, ◌&&◌, List, [], ◌∷◌, ◌++◌}
use Rattle.std.proofs.Common.{Option, Some, None, refl, ap, ◌∙◌, sym, arith, codes}
use Rattle.std.specs.List.{list_any, list_all, join_with_byte}
use Rattle.std.specs.Str.{all_ascii_digits, bytes_eq}
use Rattle.std.specs.Fmt.{decimal}
use Rattle.std.proofs.lemmas.Bool.Decides.{nat_tests}
use Rattle.std.proofs.lemmas.Fmt.{digits_decimal}
use Rattle.std.proofs.lemmas.Str.Parse.{tells_all_ascii_digits, numerals_by_value}
use Rattle.line_words.specs.Words.{Word, is_space, words}
use Rattle.line_words.specs.Numbers.{number_or_none, yes_or_no}
use Rattle.line_words.specs.Laws.{NumbersAreRead}
use Rattle.node_texts.specs.declared.status_line.StatusLine.{StatusLine}
use Rattle.node_texts.specs.StatusText.{or_none_text, yes_or_no_text, status_text, status_of}
use Rattle.node_texts.specs.StatusText.{line_status}
use Rattle.node_texts.specs.StatusLaws.{IsSmallOrNone, IsSmall}
use Rattle.node_texts.proofs.StatusSpelling.{status_words, text-is}

abbrev has_no_space : Word → Bool
has_no_space word = not (list_any is_space word)

-- words without spaces, joined by spaces, are those words
words-front : (w rest : List ℕ) → has_no_space w ≡ true → words (w ++ 32 ∷ rest) ≡ w ∷ words rest
words-front [] rest n = refl
words-front (x ∷ w) rest n = grind (arith, nat_tests, words-front w rest)

words-one : (w : List ℕ) → has_no_space w ≡ true → words w ≡ w ∷ []
words-one [] n = refl
words-one (x ∷ w) n = grind (arith, nat_tests, words-one w)

both : (a b : Bool) → a && b ≡ true → (a ≡ true) × (b ≡ true)
both true b e = (refl, e)
both false b e = absurd (cc)

words-joined : (w : Word) (ws : List Word) → list_all has_no_space (w ∷ ws) ≡ true
    → words (join_with_byte 32 (w ∷ ws)) ≡ w ∷ ws
words-joined w [] n = words-one w (both (has_no_space w) true n).0
words-joined w (v ∷ ws) n =
    let (first, others) = both (has_no_space w) (list_all has_no_space (v ∷ ws)) n in
    words-front w (join_with_byte 32 (v ∷ ws)) first ∙ ap (λ vs. w ∷ vs) (words-joined v ws others)

-- what decimal spells are digits
abbrev AreDigits : List ℕ → Type 0
AreDigits ds = all_ascii_digits ds ≡ true

digits-in : (n : ℕ) → n < 65536 → AreDigits (decimal n)
digits-in n h = digits_decimal (numerals_by_value AreDigits tells_all_ascii_digits) n (omega arith)

digits-no_space : (ds : List ℕ) → AreDigits ds → has_no_space ds ≡ true
digits-no_space [] d = refl
digits-no_space (x ∷ ds) d = grind (arith, nat_tests, digits-no_space ds)

digits-not_none : (ds : List ℕ) → AreDigits ds → bytes_eq ds (codes "none") ≡ false
digits-not_none [] d = refl
digits-not_none (x ∷ ds) d = grind (arith, nat_tests)

number-no_space : (n : ℕ) → n < 65536 → has_no_space (decimal n) ≡ true
number-no_space n h = digits-no_space (decimal n) (digits-in n h)

or_none-no_space : (o : Option ℕ) → IsSmallOrNone o → has_no_space (or_none_text o) ≡ true
or_none-no_space None h = refl
or_none-no_space (Some n) h = number-no_space n h

or_none-read : NumbersAreRead → (o : Option ℕ) → IsSmallOrNone o
    → number_or_none (or_none_text o) ≡ Some o
or_none-read read None h = refl
or_none-read read (Some n) h = rw (digits-not_none (decimal n) (digits-in n h), read n h) refl

yes_or_no-no_space : (b : Bool) → has_no_space (yes_or_no_text b) ≡ true
yes_or_no-no_space true = refl
yes_or_no-no_space false = refl

yes_or_no-read : (b : Bool) → yes_or_no (yes_or_no_text b) ≡ Some b
yes_or_no-read true = refl
yes_or_no-read false = refl

no-spaces : (s : StatusLine) → IsSmall s → list_all has_no_space (status_words s) ≡ true
no-spaces s h =
    rw (
      number-no_space s.node h.node,
      number-no_space s.distance h.distance,
      or_none-no_space
          s.parent h.parent,
      yes_or_no-no_space s.token,
      or_none-no_space s.lent h.lent,
      number-no_space s.waiting
          h.waiting,
    ) refl

words-read : NumbersAreRead → (s : StatusLine) → IsSmall s → status_of (status_words s) ≡ Some s
words-read read s h =
    rw (
      read s.node h.node,
      read s.distance h.distance,
      or_none-read read s.parent h.parent,
      yes_or_no-read s.token,
      or_none-read read s.lent h.lent,
      read s.waiting h.waiting,
    ) refl

all-words : (s : StatusLine) → IsSmall s → words (status_text s) ≡ status_words s
all-words s h = ap words (sym (text-is s)) ∙ words-joined (codes "node") _ (no-spaces s h)

pub lines-read : NumbersAreRead → (s : StatusLine) → IsSmall s
    → line_status (status_text s) ≡ Some s
lines-read read s h = ap status_of (all-words s h) ∙ words-read read s h
