-- What one word says: a number, a number or `none`, `yes` or `no`.
use Rattle.std.specs.Prelude.{ℕ, Bool, true, false, ◌&&◌, ◌==◌, if◌then◌else◌, nat_le, [], ◌∷◌, Option, Some, None, codes}
use Rattle.std.specs.List.{list_all}
use Rattle.std.specs.Option.{option_map}
use Rattle.std.specs.Char.{is_ascii_digit}
use Rattle.std.specs.Str.{bytes_eq}
use Rattle.std.specs.Str.Parse.{digits_value}
use Rattle.line_words.specs.Words.{Word}

-- at least one byte, each a decimal digit
abbrev pub are_digits : Word → Bool
are_digits [] = false
are_digits (digit ∷ digits) = list_all is_ascii_digit (digit ∷ digits)

-- the number that decimal digits spell, if it is no greater than the most
abbrev pub digits_up_to : ℕ → Word → Option ℕ
digits_up_to most word = if are_digits word && nat_le (digits_value 10 word) most then Some (digits_value 10 word) else None

-- a zero in front of other bytes
abbrev pub has_leading_zero : Word → Bool
has_leading_zero [] = false
has_leading_zero (digit ∷ []) = false
has_leading_zero (digit ∷ other ∷ digits) = digit == 48

-- a word is a number if it is digits below 65536 with no leading zero
abbrev pub number : Word → Option ℕ
number word = if has_leading_zero word then None else digits_up_to 65535 word

-- a word is a number or `none`
abbrev pub number_or_none : Word → Option (Option ℕ)
number_or_none word = if bytes_eq word (codes "none") then Some None else option_map (λ n. Some n) (number word)

-- a word is `yes` or `no`
abbrev pub yes_or_no : Word → Option Bool
yes_or_no word = if bytes_eq word (codes "yes") then Some true else if bytes_eq word (codes "no") then Some false else None
