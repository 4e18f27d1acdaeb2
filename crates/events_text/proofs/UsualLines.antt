-- The usual lines in front of a text: what stands before the newline, and what it means.
use Rattle.std.proofs.Common.{◌≡◌, ℕ, ◌+◌, ◌-◌, ◌*◌, ◌/◌, ◌%◌, ◌<◌, ◌≤◌, ◌==◌, true, false, List, [], ◌∷◌, ◌++◌, length, take, drop, get_or, Some, refl, ap, sym, ◌∙◌, arith, codes, append_assoc}
use Rattle.std.specs.Char.{is_ascii_digit}
use Rattle.std.specs.Fmt.{decimal}
use Rattle.std.proofs.lemmas.Grind.{common_steps}
use Rattle.std.proofs.lemmas.Bool.Decides.{nat_tests}
use Rattle.std.proofs.lemmas.Fmt.{decimal_digit, decimal_step, length-decimal-le}
use Rattle.std.proofs.lemmas.List.{length-append}
use Rattle.byte_lines.specs.Lines.{newline, HasNoNewline}
use Rattle.run_model.specs.declared.event.Event.{Event}
use Rattle.run_model.specs.declared.event.Event.TheVariants.{Send, Take, Tick}
use Rattle.events_text.specs.declared.text_line.TextLine.TheVariants.{Said}
use Rattle.events_text.specs.EventLine.{line_event}
use Rattle.events_text.specs.EventLaws.{is_small}
use Rattle.events_text.specs.EventsText.{text_line}
use Rattle.line_words.specs.Laws.{NumbersAreRead}
use Rattle.events_text.proofs.EventReading.{AreDigits, digits-in, events-read}

-- a digit is the decimal spelling of its value, and so are two if the first is no zero
pub one_digit : (ones : ℕ) → is_ascii_digit ones ≡ true → decimal (ones - 48) ≡ ones ∷ []
one_digit ones is =
    let within : (48 ≤ ones) × (ones ≤ 57) = grind (arith, nat_tests) in
    let back : 48 + (ones - 48) ≡ ones = omega (arith, within.0) in
    decimal_digit (ones - 48) (omega (arith, within.0, within.1)) ∙ ap (λ x. x ∷ []) back

pub two_digits : (tens ones : ℕ) → 49 ≤ tens → tens ≤ 57 → is_ascii_digit ones ≡ true
    → decimal (10 * (tens - 48) + (ones - 48)) ≡ tens ∷ ones ∷ []
two_digits tens ones low high is =
    let within : (48 ≤ ones) × (ones ≤ 57) = grind (arith, nat_tests) in
    let n = 10 * (tens - 48) + (ones - 48) in
    let front : 48 + n / 10 ≡ tens = omega (arith, within.0, within.1) in
    let small : n / 10 < 10 = omega (arith, within.0, within.1) in
    let last : 48 + n % 10 ≡ ones = omega (arith, within.0, within.1) in
    decimal_step n (omega (arith, within.0)) (omega (arith, within.1))
    ∙ ap (λ ds. ds ++ (48 + n % 10) ∷ []) (decimal_digit (n / 10) small ∙ ap (λ x. x ∷ []) front) ∙ ap (λ x. tens ∷ x ∷ []) last

all_after : (s : List ℕ) (i : ℕ) → take (length s - i) (drop i s) ≡ drop i s
all_after s i = grind (arith, common_steps)

-- a text of at least so many bytes begins with them
pub one_byte : (s : List ℕ) (a : ℕ) → 1 ≤ length s → get_or s 0 0 ≡ a → s ≡ a ∷ drop 1 s
one_byte [] a some is = absurd (omega arith)
one_byte (x ∷ s) a some is = ap (λ y. y ∷ s) is

pub two_bytes : (s : List ℕ) (a b : ℕ) → 2 ≤ length s → get_or s 0 0 ≡ a → get_or s 1 0 ≡ b → s ≡ a ∷ b ∷ drop 2 s
two_bytes [] a b some first second = absurd (omega arith)
two_bytes (x ∷ s) a b some first second = ap (λ y. y ∷ s) first ∙ ap (λ t. a ∷ t) (one_byte s b (omega (arith, some)) second)

pub three_bytes : (s : List ℕ) (a b c : ℕ) → 3 ≤ length s → get_or s 0 0 ≡ a → get_or s 1 0 ≡ b → get_or s 2 0 ≡ c → s ≡ a ∷ b ∷ c ∷ drop 3 s
three_bytes [] a b c some first second third = absurd (omega arith)
three_bytes (x ∷ s) a b c some first second third = ap (λ y. y ∷ s) first ∙ ap (λ t. a ∷ t) (two_bytes s b c (omega (arith, some)) second third)

pub five_bytes : (s : List ℕ) (a b c d e : ℕ) → 5 ≤ length s → get_or s 0 0 ≡ a → get_or s 1 0 ≡ b → get_or s 2 0 ≡ c → get_or s 3 0 ≡ d
    → get_or s 4 0 ≡ e → s ≡ a ∷ b ∷ c ∷ d ∷ e ∷ take (length s - 5) (drop 5 s)
five_bytes [] a b c d e some p q r t u = absurd (omega arith)
five_bytes (x ∷ []) a b c d e some p q r t u = absurd (omega arith)
five_bytes (x ∷ y ∷ s) a b c d e some p q r t u =
    ap (λ z. z ∷ y ∷ s) p ∙ ap (λ z. a ∷ z ∷ s) q ∙ ap (λ z. a ∷ b ∷ z) (three_bytes s c d e (omega (arith, some)) r t u)
    ∙ ap (λ z. a ∷ b ∷ c ∷ d ∷ e ∷ z) (sym (all_after (x ∷ y ∷ s) 5))

-- one digit and the byte that ends it, and two digits and that byte
pub one_in_front : (s : List ℕ) (end n : ℕ) → 2 ≤ length s → is_ascii_digit (get_or s 0 0) ≡ true → get_or s 1 0 ≡ end → n ≡ get_or s 0 0 - 48
    → (n < 100) × (s ≡ decimal n ++ end ∷ take (length s - 2) (drop 2 s))
one_in_front s end n some digit last value =
    let small : n < 100 = grind (arith, nat_tests) in
    let spelled : decimal n ≡ get_or s 0 0 ∷ [] = ap decimal value ∙ one_digit (get_or s 0 0) digit in (
      small,
      two_bytes s (get_or s 0 0) end some refl last ∙ ap (λ t. get_or s 0 0 ∷ end ∷ t) (sym (all_after s 2))
          ∙ ap (λ ds. ds ++ end ∷ take (length s - 2) (drop 2 s)) (sym spelled),
    )

pub two_in_front : (s : List ℕ) (end n : ℕ) → 3 ≤ length s → 49 ≤ get_or s 0 0 → get_or s 0 0 ≤ 57 → is_ascii_digit (get_or s 1 0) ≡ true
    → get_or s 2 0 ≡ end → n ≡ 10 * (get_or s 0 0 - 48) + (get_or s 1 0 - 48)
    → (n < 100) × (s ≡ decimal n ++ end ∷ take (length s - 3) (drop 3 s))
two_in_front s end n some low high digit last value =
    let ones : get_or s 1 0 ≤ 57 = grind (arith, nat_tests) in
    let small : n < 100 = omega (arith, ones, value, high) in
    let spelled : decimal n ≡ get_or s 0 0 ∷ get_or s 1 0 ∷ [] = ap decimal value ∙ two_digits (get_or s 0 0) (get_or s 1 0) low high digit in (
      small,
      three_bytes s (get_or s 0 0) (get_or s 1 0) end some refl refl last
          ∙ ap (λ t. get_or s 0 0 ∷ get_or s 1 0 ∷ end ∷ t) (sym (all_after s 3))
          ∙ ap (λ ds. ds ++ end ∷ take (length s - 3) (drop 3 s)) (sym spelled),
    )

digits-no_newline : (ds : List ℕ) → AreDigits ds → HasNoNewline ds
digits-no_newline [] d = tt
digits-no_newline (x ∷ ds) d = grind (arith, nat_tests, digits-no_newline ds)

number-no_newline : (n : ℕ) → n < 100 → HasNoNewline (decimal n)
number-no_newline n h = digits-no_newline (decimal n) (digits-in n (omega arith))

no_newline-both : (a b : List ℕ) → HasNoNewline a → HasNoNewline b → HasNoNewline (a ++ b)
no_newline-both [] b p q = q
no_newline-both (x ∷ a) b (p, ps) q = (p, no_newline-both a b ps q)

number-short : (n : ℕ) → n < 100 → length (decimal n) ≤ 2
number-short n h = length-decimal-le 2 n (omega arith) (omega arith) (omega arith)

small : (n : ℕ) → n < 100 → is_small n ≡ true
small n h = grind (arith, nat_tests)

-- a line that is short and no comment means its event
said_line : (x : ℕ) (xs : List ℕ) (e : Event) → (x == 35) ≡ false → length (x ∷ xs) ≤ 64 → line_event (x ∷ xs) ≡ Some e → text_line (x ∷ xs) ≡ Said e
said_line x xs e other short event = grind (arith, nat_tests)

-- two numbers with a space between them
pair-no_newline : (u v : ℕ) → u < 100 → v < 100 → HasNoNewline (decimal u ++ 32 ∷ decimal v)
pair-no_newline u v a b = no_newline-both (decimal u) (32 ∷ decimal v) (number-no_newline u a) ((λ e. omega (arith, e)), number-no_newline v b)

pair-short : (u v : ℕ) → u < 100 → v < 100 → length (decimal u ++ 32 ∷ decimal v) ≤ 5
pair-short u v a b = omega (arith, length-append (decimal u) (32 ∷ decimal v), number-short u a, number-short v b)

pair-in_front : (u v : ℕ) (ids more rest : List ℕ) → ids ≡ decimal u ++ 32 ∷ more → more ≡ decimal v ++ newline ∷ rest
    → ids ≡ (decimal u ++ 32 ∷ decimal v) ++ newline ∷ rest
pair-in_front u v ids more rest first second =
    first ∙ ap (λ xs. decimal u ++ 32 ∷ xs) second ∙ sym (append_assoc (decimal u) (32 ∷ decimal v) (newline ∷ rest))

-- a word with a space after it, two numbers and a newline, in front of a text
two_numbers : (x : ℕ) (xs : List ℕ) (u v : ℕ) (e : Event) (text ids more rest : List ℕ) → (x == 35) ≡ false → length (x ∷ xs) ≤ 5 → HasNoNewline (x ∷ xs)
    → line_event (x ∷ (xs ++ (decimal u ++ 32 ∷ decimal v))) ≡ Some e → u < 100 → v < 100 → text ≡ x ∷ (xs ++ ids)
    → ids ≡ decimal u ++ 32 ∷ more → more ≡ decimal v ++ newline ∷ rest
    → (line : List ℕ) × (text ≡ line ++ newline ∷ rest) × HasNoNewline line × (text_line line ≡ Said e)
two_numbers x xs u v e text ids more rest other few none event a b is first second =
    let ids_are = pair-in_front u v ids more rest first second in (
      x ∷ (xs ++ (decimal u ++ 32 ∷ decimal v)),
      is ∙ ap (λ ys. x ∷ (xs ++ ys)) ids_are ∙ ap (λ ys. x ∷ ys) (sym (append_assoc xs (decimal u ++ 32 ∷ decimal v) (newline ∷ rest))),
      no_newline-both (x ∷ xs) (decimal u ++ 32 ∷ decimal v) none (pair-no_newline u v a b),
      said_line x (xs ++ (decimal u ++ 32 ∷ decimal v)) e other
          (omega (arith, few, length-append xs (decimal u ++ 32 ∷ decimal v), pair-short u v a b)) event,
    )

module _ (read : NumbersAreRead) where
  -- `send U V`, `take U V` and `tick V`, each with its newline, in front of a text
  pub send_line : (u v : ℕ) (text ids more rest : List ℕ) → u < 100 → v < 100 → text ≡ 115 ∷ 101 ∷ 110 ∷ 100 ∷ 32 ∷ ids
      → ids ≡ decimal u ++ 32 ∷ more → more ≡ decimal v ++ newline ∷ rest
      → (line : List ℕ) × (text ≡ line ++ newline ∷ rest) × HasNoNewline line × (text_line line ≡ Said (Send u v))
  send_line u v text ids more rest a b =
      two_numbers 115 (101 ∷ 110 ∷ 100 ∷ 32 ∷ []) u v (Send u v) text ids more rest refl (omega arith) (grind arith)
      (events-read read (Send u v) (grind (arith, small u a, small v b))) a b

  pub take_line : (u v : ℕ) (text ids more rest : List ℕ) → u < 100 → v < 100 → text ≡ 116 ∷ 97 ∷ 107 ∷ 101 ∷ 32 ∷ ids
      → ids ≡ decimal u ++ 32 ∷ more → more ≡ decimal v ++ newline ∷ rest
      → (line : List ℕ) × (text ≡ line ++ newline ∷ rest) × HasNoNewline line × (text_line line ≡ Said (Take u v))
  take_line u v text ids more rest a b =
      two_numbers 116 (97 ∷ 107 ∷ 101 ∷ 32 ∷ []) u v (Take u v) text ids more rest refl (omega arith) (grind arith)
      (events-read read (Take u v) (grind (arith, small u a, small v b))) a b

  pub tick_line : (v : ℕ) (text ids rest : List ℕ) → v < 100 → text ≡ 116 ∷ 105 ∷ 99 ∷ 107 ∷ 32 ∷ ids → ids ≡ decimal v ++ newline ∷ rest
      → (line : List ℕ) × (text ≡ line ++ newline ∷ rest) × HasNoNewline line × (text_line line ≡ Said (Tick v))
  tick_line v text ids rest b is first = (
    116 ∷ 105 ∷ 99 ∷ 107 ∷ 32 ∷ decimal v,
    is ∙ ap (λ xs. 116 ∷ 105 ∷ 99 ∷ 107 ∷ 32 ∷ xs) first,
    no_newline-both (codes "tick ") (decimal v) (grind arith) (number-no_newline v b),
    said_line 116 (105 ∷ 99 ∷ 107 ∷ 32 ∷ decimal v) (Tick v) refl (omega (arith, number-short v b)) (events-read read (Tick v) (small v b)),
  )
