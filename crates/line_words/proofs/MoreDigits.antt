-- The number that digits spell, a digit at a time.
use Rattle.std.proofs.Common.{◌≡◌, ℕ, ◌+◌, ◌-◌, ◌*◌, ◌<◌, true, List, length, take, get_or, None, arith}
use Rattle.std.specs.List.{list_all}
use Rattle.std.specs.Char.{is_ascii_digit}
use Rattle.std.specs.Str.Parse.{digits_value}
use Rattle.std.specs.Char.{digit_value}
use Rattle.std.proofs.lemmas.Grind.{common_steps}
use Rattle.std.proofs.lemmas.Bool.Decides.{nat_tests}
use Rattle.std.proofs.lemmas.Str.{digit_value_digit}
use Rattle.std.proofs.lemmas.Str.Parse.{digits_value-take-le}
use Rattle.std.proofs.lemmas.Int.Digits.{digits_value_more}
use Rattle.line_words.specs.Numbers.{digits_up_to}

digit-is : (c : ℕ) → is_ascii_digit c ≡ true → digit_value c ≡ c - 48
digit-is c d = grind (arith, nat_tests, digit_value_digit c)

-- one digit more
pub more-value : (ds : List ℕ) (i value : ℕ) → i < length ds → value ≡ digits_value 10 (take i ds) → is_ascii_digit (get_or ds i 0) ≡ true
    → 10 * value + (get_or ds i 0 - 48) ≡ digits_value 10 (take (i + 1) ds)
more-value ds i value h v d = omega (arith, digits_value_more 10 ds i h, digit-is (get_or ds i 0) d)

pub more-digits : (ds : List ℕ) (i : ℕ) → i < length ds → list_all is_ascii_digit (take i ds) ≡ true → is_ascii_digit (get_or ds i 0) ≡ true
    → list_all is_ascii_digit (take (i + 1) ds) ≡ true
more-digits ds i h a d = grind (arith, common_steps)

-- the first digits spell no more than all
pub too-large : (most : ℕ) (ds : List ℕ) (i : ℕ) → most < digits_value 10 (take i ds) → digits_up_to most ds ≡ None
too-large most ds i big = grind (arith, nat_tests, digits_value-take-le 10 ds i (omega arith))
