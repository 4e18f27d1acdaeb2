-- A line that says how a node stands is the text of what it says.
use Rattle.std.proofs.Common.{◌≡◌, ℕ, Bool, true, false, List, [], ◌∷◌, Option, Some, None, refl}
use Rattle.std.proofs.Common.{ap, sym, ◌∙◌, arith, codes}
use Rattle.std.specs.Prelude.{if◌then◌else◌}
use Rattle.std.specs.Option.{option_and_then, option_map}
use Rattle.std.specs.Str.{bytes_eq}
use Rattle.std.specs.Fmt.{decimal}
use Rattle.std.specs.List.{join_with_byte}
use Rattle.std.proofs.lemmas.Slice.Eq.{bytes_eq-Decides}
use Rattle.line_words.specs.Words.{Word, words, first_word, other_words, reads, ends}
use Rattle.line_words.specs.Numbers.{number, number_or_none, yes_or_no}
use Rattle.line_words.specs.Laws.{NumbersHaveOneSpelling, WordsMakeTheLine}
use Rattle.node_texts.specs.declared.status_line.StatusLine.{StatusLine}
use Rattle.node_texts.specs.StatusText.{or_none_text, yes_or_no_text, status_text, field}
use Rattle.node_texts.specs.StatusText.{status_of, line_status}

-- the words of a status line
abbrev pub status_words : StatusLine → List Word
status_words s =
    codes "node" ∷ decimal s.node ∷ codes "distance" ∷ decimal s.distance ∷ codes "parent"
    ∷ or_none_text s.parent
    ∷ codes "token" ∷ yes_or_no_text s.token ∷ codes "lent" ∷ or_none_text s.lent
    ∷ codes "waiting" ∷ decimal s.waiting ∷ []

pub text-is : (s : StatusLine) → join_with_byte 32 (status_words s) ≡ status_text s
text-is s = refl

is-word : (w word : Word) → bytes_eq w word ≡ true → w ≡ word
is-word w word e = grind (arith, bytes_eq-Decides w word)

-- a field that was read is its name and the spelling of what it says
module _ {X Y : Type 0} (read : Word → Option X) (spell : X → Word) (one : (w : Word) (x : X)
    → read w ≡ Some x → w ≡ spell x) where
  said : (others : X → List Word → Option Y) (P : List Word → Type 0) (y : Y)
      → ((x : X) (rest : List Word) → others x rest ≡ Some y → P (spell x ∷ rest))
      → (w : Word) (rest : List Word) (o : Option X) → read w ≡ o
      → option_and_then (λ x. others x rest) o ≡ Some y → P (w ∷ rest)
  said others P y goes w rest None none e = absurd (cc)
  said others P y goes w rest (Some x) some e = rw (one w x some) (goes x rest e)

  step : (others : X → List Word → Option Y) (P : List Word → Type 0) (ws : List Word) (y : Y)
      → ((x : X) (rest : List Word) → others x rest ≡ Some y → P (spell x ∷ rest))
      → reads read others ws ≡ Some y → P ws
  step others P [] y goes e = absurd (cc)
  step others P (w ∷ rest) y goes e = said others P y goes w rest (read w) refl e

  by-name : (name : Word) (others : X → List Word → Option Y) (P : List Word
      → Type 0) (w : Word) (ws : List Word) (y : Y)
      → ((x : X) (rest : List Word) → others x rest ≡ Some y → P (name ∷ spell x ∷ rest))
      → (b : Bool) → bytes_eq w name ≡ b
      → option_and_then (λ x. others x (other_words ws)) (if b then option_and_then read (first_word ws) else None)
      ≡ Some y → P (w ∷ ws)
  by-name name others P w ws y goes true is e = rw (is-word w name is) (step others (λ ws. P (name
      ∷ ws)) ws y goes e)
  by-name name others P w ws y goes false is e = absurd (cc)

  pub named : (name : Word) (others : X → List Word → Option Y) (P : List Word
      → Type 0) (ws : List Word) (y : Y)
      → ((x : X) (rest : List Word) → others x rest ≡ Some y → P (name ∷ spell x ∷ rest))
      → field name read others ws ≡ Some y → P ws
  named name others P [] y goes e = absurd (cc)
  named name others P (w ∷ ws) y goes e = by-name name others P w ws y goes (bytes_eq w name) refl e

finish : {Y : Type 0} → (P : List Word → Type 0) (ws : List Word) (y z : Y) → (y ≡ z → P [])
    → ends y ws ≡ Some z → P ws
finish P [] y z goes e = goes (cc)
finish P (w ∷ ws) y z goes e = absurd (cc)

number-one : NumbersHaveOneSpelling → (w : Word) (n : ℕ) → number w ≡ Some n → w ≡ decimal n
number-one spelled w n e = (spelled w n e).1

or_none-one : NumbersHaveOneSpelling → (w : Word) (o : Option ℕ) → number_or_none w ≡ Some o
    → w ≡ or_none_text o
or_none-one spelled w o e = by (bytes_eq w (codes "none")) refl (number w) refl e
  where
    by : (b : Bool) → bytes_eq w (codes "none") ≡ b → (r : Option ℕ) → number w ≡ r
        → ◌≡◌ {A = Option (Option ℕ)} (if b then Some None else option_map
        (λ n. Some n) r) (Some o) → w ≡ or_none_text o
    by true is r read e = let none : None ≡ o = cc in rw (← none) (is-word w (codes "none") is)
    by false is None read e = absurd (cc)
    by false is (Some n) read e = let some : ◌≡◌ {A = Option ℕ} (Some n) o = cc in rw (← some)
        (number-one spelled w n read)

yes_or_no-one : (w : Word) (b : Bool) → yes_or_no w ≡ Some b → w ≡ yes_or_no_text b
yes_or_no-one w b e = by (bytes_eq w (codes "yes")) refl (bytes_eq w (codes "no")) refl e
  where
    by : (y : Bool) → bytes_eq w (codes "yes") ≡ y → (n : Bool) → bytes_eq w (codes "no") ≡ n
        → ◌≡◌ {A = Option Bool} (if y then Some true else if n then Some false else None) (Some b)
        → w ≡ yes_or_no_text b
    by true is n no_is e = let same : true ≡ b = cc in rw (← same) (is-word w (codes "yes") is)
    by false is true no_is e = let same : false ≡ b = cc in rw (← same) (is-word w
        (codes "no") no_is)
    by false is false no_is e = absurd (cc)

-- what is read after each field
abbrev line_of : ℕ → ℕ → Option ℕ → Bool → Option ℕ → ℕ → StatusLine
line_of node distance parent token lent waiting =
    record {
      node = node;
      distance = distance;
      parent = parent;
      token = token;
      lent = lent;
      waiting
          = waiting;
    }

abbrev after_lent : ℕ → ℕ → Option ℕ → Bool → Option ℕ → List Word → Option StatusLine
after_lent v d p t l = field (codes "waiting") number (λ w. ends (line_of v d p t l w))

abbrev after_token : ℕ → ℕ → Option ℕ → Bool → List Word → Option StatusLine
after_token v d p t = field (codes "lent") number_or_none (after_lent v d p t)

abbrev after_parent : ℕ → ℕ → Option ℕ → List Word → Option StatusLine
after_parent v d p = field (codes "token") yes_or_no (after_token v d p)

abbrev after_distance : ℕ → ℕ → List Word → Option StatusLine
after_distance v d = field (codes "parent") number_or_none (after_parent v d)

abbrev after_node : ℕ → List Word → Option StatusLine
after_node v = field (codes "distance") number (after_distance v)

words-of : NumbersHaveOneSpelling → (ws : List Word) (s : StatusLine) → status_of ws ≡ Some s
    → ws ≡ status_words s
words-of spelled ws s = named number decimal (number-one spelled) (codes "node") after_node
    (λ ws. ws ≡ status_words s) ws s
    (λ v rest. named number decimal (number-one spelled) (codes "distance") (after_distance v)
    (λ ws. codes "node" ∷ decimal v ∷ ws ≡ status_words s) rest s
    (λ d rest. named number_or_none or_none_text (or_none-one spelled) (codes "parent") (after_parent v d)
    (λ ws. codes "node" ∷ decimal v ∷ codes "distance" ∷ decimal d ∷ ws ≡ status_words s) rest s
    (λ p rest. named yes_or_no yes_or_no_text yes_or_no-one (codes "token") (after_token v d p)
    (λ ws. codes "node" ∷ decimal v ∷ codes "distance" ∷ decimal d ∷ codes "parent"
    ∷ or_none_text p ∷ ws ≡ status_words s) rest s
    (λ t rest. named number_or_none or_none_text (or_none-one spelled) (codes "lent") (after_lent v d p t)
    (λ ws. codes "node" ∷ decimal v ∷ codes "distance" ∷ decimal d ∷ codes "parent"
    ∷ or_none_text p ∷ codes "token" ∷ yes_or_no_text t ∷ ws ≡ status_words s) rest s
    (λ l rest. named number decimal (number-one spelled) (codes "waiting") (λ w. ends (line_of v d p t l w))
    (λ ws. codes "node" ∷ decimal v ∷ codes "distance" ∷ decimal d ∷ codes "parent"
    ∷ or_none_text p ∷ codes "token" ∷ yes_or_no_text t
    ∷ codes "lent" ∷ or_none_text l ∷ ws ≡ status_words s) rest s
    (λ w rest. finish (λ ws. codes "node" ∷ decimal v ∷ codes "distance" ∷ decimal d
    ∷ codes "parent" ∷ or_none_text p ∷ codes "token" ∷ yes_or_no_text t
    ∷ codes "lent" ∷ or_none_text l ∷ codes "waiting" ∷ decimal w
    ∷ ws ≡ status_words s) rest (line_of v d p t l w) s (λ same. rw (← same) refl)))))))

pub lines-spelled : NumbersHaveOneSpelling → WordsMakeTheLine → (line : List ℕ) (s : StatusLine)
    → line_status line ≡ Some s → line ≡ status_text s
lines-spelled spelled joined line s h = sym (joined line)
    ∙ ap (join_with_byte 32) (words-of spelled (words line) s h) ∙ text-is s
