-- The words of `lock` in front of its command.
use Rattle.std.specs.Prelude.{ℕ, ◌+◌, ◌==◌, Bool, true, false, ◌&&◌, ◌||◌, not, if◌then◌else◌, nat_lt, nat_le}
use Rattle.std.specs.Prelude.{List, [], ◌∷◌, ◌++◌, map, Option, Some, None, is_some, length, fold, codes}
use Rattle.std.specs.List.{starts_with}
use Rattle.line_words.specs.Numbers.{number}
use Rattle.std.specs.Option.{option_map, option_to_list}
use Rattle.std.specs.Borrow.{Bor}
use Rattle.std.specs.Str.{bytes_eq}
use Rattle.recovery_times.specs.Reading.{micros_of}
use Rattle.client_words.specs.declared.reading.Reading.{Reading}

abbrev pub nothing_read : Reading
nothing_read = record { places = 0; is_node = false; is_value = false; is_over = false }

-- a hyphen and more
abbrev pub is_option : List ℕ → Bool
is_option word = nat_lt 1 (length word) && starts_with (λ a b. a == b) word (codes "-")

-- the next word is its value
abbrev pub takes_value : List ℕ → Bool
takes_value word =
    bytes_eq word (codes "--timeout") || bytes_eq word (codes "--lost-status") || bytes_eq word (codes "-E")

-- `any`, or a number
abbrev pub is_node_name : List ℕ → Bool
is_node_name word = bytes_eq word (codes "any") || is_some (number word)

-- a positional word; the third is the command's name, and all that follow are the command's
abbrev pub read_place : Reading → List ℕ → Reading
read_place r word = record {
  places = if nat_lt r.places 3 then r.places + 1 else 3;
  is_node = r.is_node || (r.places == 0 && is_node_name word);
  is_value = false;
  is_over = nat_le 2 r.places;
}

-- after `--` all words are the command's
abbrev pub read_word : Reading → List ℕ → Reading
read_word r word =
    if r.is_over then r
    else if r.is_value then record r { is_value = false }
    else if bytes_eq word (codes "--") then record r { is_over = true }
    else if is_option word then record r { is_value = takes_value word }
    else read_place r word

-- the `--` in front of the command
abbrev pub opens_command : Reading → List ℕ → Bool
opens_command r word = not r.is_over && (not r.is_value && bytes_eq word (codes "--"))

-- DIR is left out if there is no positional word, or one that may be an ID
abbrev pub needs_folder : Reading → Bool
needs_folder r = r.places == 0 || (r.places == 1 && r.is_node)

-- ID is left out if there is no positional word, or one that is not the ID, even if only because no
-- folder stands in for DIR
abbrev pub needs_node : Bool → Reading → Bool
needs_node has_folder r = r.places == 0 || (r.places == 1 && not (r.is_node && has_folder))

-- short options have a long form
abbrev pub spelled_out : List ℕ → List ℕ
spelled_out word =
    if bytes_eq word (codes "-n") then codes "--no-wait"
    else if bytes_eq word (codes "-E") then codes "--lost-status"
    else word

-- how the next word is spelled: in front of the command in its long form, unless it is a value
abbrev pub said : Reading → List ℕ → List ℕ
said r word = if r.is_over || r.is_value then word else spelled_out word

-- how far words are read
abbrev pub words_read : {X : Type 0} → (X → List ℕ) → List X → Reading
words_read text words = fold (λ r word. read_word r (text word)) nothing_read words

-- the bytes of words
abbrev pub texts : List (Bor (List ℕ)) → List (List ℕ)
texts words = map (λ w. w.now) words

abbrev pub text_if : Option (Bor (List ℕ)) → Option (List ℕ)
text_if word = option_map (λ w. w.now) word

-- the words after the command's name as they are spelled, with a node in front of `--` or at the
-- end
abbrev pub placed : {X : Type 0} → (X → List ℕ) → Option (List ℕ) → Reading → List X → List (List ℕ)
placed text node r [] = option_to_list node
placed text node r (word ∷ words) =
    if opens_command r (text word)
    then option_to_list node ++ (said r (text word) ∷ placed text None (read_word r (text word)) words)
    else said r (text word) ∷ placed text node (read_word r (text word)) words

-- at most 65535 seconds, in milliseconds: seconds are spelled as milliseconds are when they are
-- read as microseconds
abbrev pub within_limit : Option ℕ → Option ℕ
within_limit None = None
within_limit (Some millis) = if nat_le millis 65535000 then Some millis else None

abbrev pub limit_of : List ℕ → Option ℕ
limit_of word = within_limit (micros_of word)
