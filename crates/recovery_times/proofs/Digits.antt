-- The number that few digits spell.
use Rattle.std.proofs.Common.{◌≡◌, ℕ, ◌≤◌, Bool, true, ◌&&◌, List, length, nat_le, Option, Some, None, if◌then◌else◌, arith}
use Rattle.std.specs.Str.Parse.{digits_value}
use Rattle.std.proofs.lemmas.Bool.Decides.{nat_tests}
use Rattle.std.proofs.lemmas.Str.Parse.{digits_value_short}
use Rattle.line_words.specs.Numbers.{are_digits, digits_up_to}
use Rattle.line_words.proofs.Spelling.{are-digits, own}
use Rattle.recovery_times.specs.Reading.{thousandths_of}

-- three digits spell no more than an hour has milliseconds
few-digits : (ds : List ℕ) → are_digits ds ≡ true → nat_le (length ds) 3 ≡ true → digits_value 10 ds ≤ 3600000
few-digits ds d few =
    let (some, all) = are-digits ds d in
    omega (arith, digits_value_short own ds 3 all (short (length ds) few))
  where
    short : (n : ℕ) → nat_le n 3 ≡ true → n ≤ 3
    short n few = grind (arith, nat_tests)

no-value : (digits few : Bool) (value part : ℕ) → (digits ≡ true → few ≡ true → value ≤ 3600000)
    → ◌≡◌ {A = Option ℕ} (if digits && nat_le value 3600000 then Some value else None) None
    → ◌≡◌ {A = Option ℕ} (if digits && few then Some part else None) None
no-value digits few value part small none = grind (arith, nat_tests)

-- digits that spell no number of that size are no three digits
pub no-thousandths : (ds : List ℕ) → digits_up_to 3600000 ds ≡ None → thousandths_of ds ≡ None
no-thousandths ds none = no-value (are_digits ds) (nat_le (length ds) 3) (digits_value 10 ds) _ (few-digits ds) none
