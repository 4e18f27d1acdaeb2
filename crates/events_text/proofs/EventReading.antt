-- Each event whose numbers are below 65536 is read from its words.
use Rattle.std.proofs.Common.{◌≡◌, ℕ, ◌<◌, Bool, true, false, not, ◌&&◌, List, [], ◌∷◌, ◌++◌, Option, Some, None, refl, ap, ◌∙◌, arith, codes}
use Rattle.std.specs.List.{list_any, list_all, join_with_byte}
use Rattle.std.specs.Str.{bytes_eq}
use Rattle.std.specs.Fmt.{decimal}
use Rattle.std.proofs.lemmas.Bool.Decides.{nat_tests}
use Rattle.std.specs.Str.{all_ascii_digits}
use Rattle.std.proofs.lemmas.Fmt.{digits_decimal}
use Rattle.std.proofs.lemmas.Str.Parse.{tells_all_ascii_digits, numerals_by_value}
use Rattle.topology.specs.declared.frame.Payload.{Payload}
use Rattle.run_model.specs.link_model.declared.item.Item.TheVariants as item
use Rattle.run_model.specs.declared.event.Event.{Event}
use Rattle.run_model.specs.declared.event.Event.TheVariants.{Send, Take, Lose, Tick, Ask, Leave, Damage}
use Rattle.run_model.specs.declared.event.Harm.{Harm}
use Rattle.run_model.specs.declared.event.Harm.TheVariants as harm
use Rattle.line_words.specs.Words.{Word, is_space, words}
use Rattle.line_words.specs.Numbers.{number, number_or_none, yes_or_no}
use Rattle.line_words.specs.Laws.{NumbersAreRead}
use Rattle.events_text.specs.EventLine.{payload_of, damage_of, event_of, line_event}
use Rattle.events_text.specs.EventLaws.{word_or_none, yes_or_no_word, payload_words, harm_words, event_words, is_small, is_small_or_none, payload_is_small, harm_is_small, event_is_small}

abbrev has_no_space : Word → Bool
has_no_space word = not (list_any is_space word)

-- words without spaces, joined by spaces, are those words
words-front : (w rest : List ℕ) → has_no_space w ≡ true → words (w ++ 32 ∷ rest) ≡ w ∷ words rest
words-front [] rest n = refl
words-front (x ∷ w) rest n = grind (arith, nat_tests, words-front w rest)

words-one : (w : List ℕ) → has_no_space w ≡ true → words w ≡ w ∷ []
words-one [] n = refl
words-one (x ∷ w) n = grind (arith, nat_tests, words-one w)

both : (a b : Bool) → a && b ≡ true → (a ≡ true) × (b ≡ true)
both true b e = (refl, e)
both false b e = absurd (cc)

words-joined : (w : Word) (ws : List Word) → list_all has_no_space (w ∷ ws) ≡ true → words (join_with_byte 32 (w ∷ ws)) ≡ w ∷ ws
words-joined w [] n = words-one w (both (has_no_space w) true n).0
words-joined w (v ∷ ws) n =
    let (first, others) = both (has_no_space w) (list_all has_no_space (v ∷ ws)) n in
    words-front w (join_with_byte 32 (v ∷ ws)) first ∙ ap (λ vs. w ∷ vs) (words-joined v ws others)

-- what decimal spells are digits
abbrev pub AreDigits : List ℕ → Type 0
AreDigits ds = all_ascii_digits ds ≡ true

pub digits-in : (n : ℕ) → n < 65536 → AreDigits (decimal n)
digits-in n h = digits_decimal (numerals_by_value AreDigits tells_all_ascii_digits) n (omega arith)

-- digits have no space, and are not `none`
digits-no_space : (ds : List ℕ) → AreDigits ds → has_no_space ds ≡ true
digits-no_space [] d = refl
digits-no_space (x ∷ ds) d = grind (arith, nat_tests, digits-no_space ds)

digits-not_none : (ds : List ℕ) → AreDigits ds → bytes_eq ds (codes "none") ≡ false
digits-not_none [] d = refl
digits-not_none (x ∷ ds) d = grind (arith, nat_tests)

below : (n : ℕ) → is_small n ≡ true → n < 65536
below n s = grind (arith, nat_tests)

number-no_space : (n : ℕ) → is_small n ≡ true → has_no_space (decimal n) ≡ true
number-no_space n s = let h = below n s in digits-no_space (decimal n) (digits-in n h)

or_none-no_space : (o : Option ℕ) → is_small_or_none o ≡ true → has_no_space (word_or_none o) ≡ true
or_none-no_space None s = refl
or_none-no_space (Some n) s = number-no_space n s

yes_or_no-no_space : (b : Bool) → has_no_space (yes_or_no_word b) ≡ true
yes_or_no-no_space true = refl
yes_or_no-no_space false = refl

yes_or_no-read : (b : Bool) → yes_or_no (yes_or_no_word b) ≡ Some b
yes_or_no-read true = refl
yes_or_no-read false = refl

-- a line whose words have no spaces is read by its words
read-of : (verb : Word) (ws : List Word) (e : Event) → list_all has_no_space (verb ∷ ws) ≡ true → event_of verb ws ≡ Some e
    → line_event (join_with_byte 32 (verb ∷ ws)) ≡ Some e
read-of verb ws e spaces read = rw (words-joined verb ws spaces) read

five : (a b c d e : Bool) → (a && b && c && d && e) ≡ true → (a ≡ true) × (b ≡ true) × (c ≡ true) × (d ≡ true) × (e ≡ true)
five a b c d e all = grind (arith)

-- the words of a payload and of a harm
payload-no_space : (p : Payload) → payload_is_small p ≡ true → list_all has_no_space (payload_words p) ≡ true
payload-no_space p s = grind (arith, number-no_space, or_none-no_space)

harm-no_space : (h : Harm) → harm_is_small h ≡ true → list_all has_no_space (harm_words h) ≡ true
harm-no_space h s = grind (arith, number-no_space, or_none-no_space, yes_or_no-no_space)

module _ (read : NumbersAreRead) where
  number-read : (n : ℕ) → is_small n ≡ true → number (decimal n) ≡ Some n
  number-read n s = read n (below n s)

  or_none-read : (o : Option ℕ) → is_small_or_none o ≡ true → number_or_none (word_or_none o) ≡ Some o
  or_none-read None s = refl
  or_none-read (Some n) s =
      let h = below n s in rw (digits-not_none (decimal n) (digits-in n h), read n h) refl

  payload-read : (p : Payload) → payload_is_small p ≡ true → payload_of (payload_words p) ≡ Some p
  payload-read p s = grind (arith, number-read, or_none-read)

  frame-read : (u v seq ack : ℕ) (p : Payload) → is_small u ≡ true → is_small v ≡ true → is_small seq ≡ true → is_small ack ≡ true
      → payload_is_small p ≡ true
      → damage_of (harm_words (harm.Item u v (item.Frame (record { seq = seq; ack = ack; payload = p }))))
      ≡ Some (Damage (harm.Item u v (item.Frame (record { seq = seq; ack = ack; payload = p }))))
  frame-read u v seq ack p su sv ss sa sp = rw (number-read u su, number-read v sv, number-read seq ss, number-read ack sa, payload-read p sp) refl

  harm-read : (h : Harm) → harm_is_small h ≡ true → damage_of (harm_words h) ≡ Some (Damage h)
  harm-read (harm.Own v d p) s = grind (arith, number-read, or_none-read, yes_or_no-read, payload-read)
  harm-read (harm.Counters v w seq last) s = grind (arith, number-read, or_none-read, yes_or_no-read, payload-read)
  harm-read (harm.Staged v w payload) s = grind (arith, number-read, or_none-read, yes_or_no-read, payload-read)
  harm-read (harm.Copy v w payload) s = grind (arith, number-read, or_none-read, yes_or_no-read, payload-read)
  harm-read (harm.Value v w x) s = grind (arith, number-read, or_none-read, yes_or_no-read, payload-read)
  harm-read (harm.Desk v lent left served) s = grind (arith, number-read, or_none-read, yes_or_no-read, payload-read)
  harm-read (harm.Item u v (item.Frame f)) s =
      let (first, second, seq, ack, payload) = five (is_small u) (is_small v) (is_small f.seq) (is_small f.ack) (payload_is_small f.payload) s in
      frame-read u v f.seq f.ack f.payload first second seq ack payload
  harm-read (harm.Item u v item.Noise) s = grind (arith, number-read, or_none-read, yes_or_no-read, payload-read)
  harm-read (harm.Empty u v) s = grind (arith, number-read, or_none-read, yes_or_no-read, payload-read)
  harm-read (harm.Join u v) s = grind (arith, number-read, or_none-read, yes_or_no-read, payload-read)
  harm-read (harm.Part u v) s = grind (arith, number-read, or_none-read, yes_or_no-read, payload-read)

  pub events-read : (e : Event) → event_is_small e ≡ true → line_event (join_with_byte 32 (event_words e)) ≡ Some e
  events-read (Send u v) s = read-of (codes "send") (decimal u ∷ decimal v ∷ []) (Send u v) (grind (arith, number-no_space)) (grind (arith, number-read))
  events-read (Take u v) s = read-of (codes "take") (decimal u ∷ decimal v ∷ []) (Take u v) (grind (arith, number-no_space)) (grind (arith, number-read))
  events-read (Lose u v i) s = read-of (codes "lose") (decimal u ∷ decimal v ∷ decimal i ∷ []) (Lose u v i) (grind (arith, number-no_space)) (grind (arith, number-read))
  events-read (Tick v) s = read-of (codes "tick") (decimal v ∷ []) (Tick v) (grind (arith, number-no_space)) (grind (arith, number-read))
  events-read (Ask v t) s = read-of (codes "ask") (decimal v ∷ decimal t ∷ []) (Ask v t) (grind (arith, number-no_space)) (grind (arith, number-read))
  events-read (Leave v t) s = read-of (codes "leave") (decimal v ∷ decimal t ∷ []) (Leave v t) (grind (arith, number-no_space)) (grind (arith, number-read))
  events-read (Damage h) s = read-of (codes "harm") (harm_words h) (Damage h) (harm-no_space h s) (harm-read h s)
