-- Status lines, and what `status` prints of them.
use Rattle.std.specs.Prelude.{ℕ, Bool, true, false, if◌then◌else◌, List, [], ◌∷◌, ◌++◌, length}
use Rattle.std.specs.Prelude.{nat_lt, Option, Some, None, codes, decimal}
use Rattle.std.specs.Str.{bytes_eq}
use Rattle.std.specs.Option.{option_and_then}
use Rattle.line_words.specs.Words.{Word, words, first_word, other_words, ends}
use Rattle.line_words.specs.Numbers.{number, number_or_none, yes_or_no}
use Rattle.node_texts.specs.declared.status_line.StatusLine.{StatusLine}

-- a number in decimal, or a word if there is none
abbrev pub or_word : List ℕ → Option ℕ → List ℕ
or_word word None = word
or_word word (Some number) = decimal number

-- an id or a ticket, or `none`
abbrev pub or_none_text : Option ℕ → List ℕ
or_none_text number = or_word (codes "none") number

abbrev pub yes_or_no_text : Bool → List ℕ
yes_or_no_text true = codes "yes"
yes_or_no_text false = codes "no"

-- `node V distance D parent P token T lent L waiting W`
abbrev pub status_text : StatusLine → List ℕ
status_text s =
    codes "node " ++ (decimal s.node
    ++ (codes " distance " ++ (decimal s.distance
    ++ (codes " parent " ++ (or_none_text s.parent
    ++ (codes " token " ++ (yes_or_no_text s.token
    ++ (codes " lent " ++ (or_none_text s.lent
    ++ (codes " waiting " ++ decimal s.waiting))))))))))

-- the first word is this one
abbrev pub first_is : Word → List Word → Bool
first_is name [] = false
first_is name (word ∷ words) = bytes_eq word name

-- what the word after a name says, if the next word is that name
abbrev pub value_after : {X : Type 0} → Word → (Word → Option X) → List Word → Option X
value_after name read words =
    if first_is name words then option_and_then read (first_word (other_words words)) else None

-- the next word is a field's name; the word after it is read, and then the others, with what it
-- says
abbrev pub field : {X Y : Type 0} → Word → (Word → Option X) → (X → List Word → Option Y)
    → List Word → Option Y
field name read others words =
    option_and_then (λ x. others x (other_words (other_words words))) (value_after name read words)

-- what the words of a status line say
abbrev pub status_of : List Word → Option StatusLine
status_of =
    field (codes "node") number (λ node.
    field (codes "distance") number (λ distance.
    field (codes "parent") number_or_none (λ parent.
    field (codes "token") yes_or_no (λ token.
    field (codes "lent") number_or_none (λ lent.
    field (codes "waiting") number (λ waiting.
    ends (record {
      node = node;
      distance = distance;
      parent = parent;
      token = token;
      lent = lent;
      waiting = waiting;
    })))))))

-- what a line says, if it is a status line
abbrev pub line_status : List ℕ → Option StatusLine
line_status line = status_of (words line)

-- the same, except that a line of more than 96 bytes, which no status line has, says nothing
abbrev pub short_line_status : List ℕ → Option StatusLine
short_line_status line = if nat_lt 96 (length line) then None else line_status line
