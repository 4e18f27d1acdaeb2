use Rattle.std.proofs.Common.{◌≡◌, ℕ, ◌+◌, ◌*◌, ◌/◌, ◌%◌, ◌<◌, ◌≤◌, List, [], ◌∷◌, length, take, drop, slice_index, sym, ◌∙◌, refl, arith}
use Rattle.std.proofs.lemmas.Grind.{common_steps}
use Rattle.frame_codec.specs.Spelling.{digit, digits}
use Rattle.frame_codec.proofs.digits.number_at.Goals as goal

-- the four bytes from an index on
four : (line : List ℕ) (at : ℕ) → at + 4 ≤ length line
    → take 4 (drop at line) ≡ slice_index line at ∷ slice_index line (at + 1) ∷ slice_index line (at + 2) ∷ slice_index line (at + 3) ∷ []
four line at room = grind (arith, common_steps)

-- the bytes that are a number's digits, one by one
module _ (line : List ℕ) (at : ℕ) (room : at + 4 ≤ length line) (number : ℕ) (e : take 4 (drop at line) ≡ digits number) where
  same : slice_index line at ∷ slice_index line (at + 1) ∷ slice_index line (at + 2) ∷ slice_index line (at + 3) ∷ [] ≡ digits number
  same = sym (four line at room) ∙ e

  first : slice_index line at ≡ digit (number / 4096 % 16)
  first = cc same

  second : slice_index line (at + 1) ≡ digit (number / 256 % 16)
  second = cc same

  third : slice_index line (at + 2) ≡ digit (number / 16 % 16)
  third = cc same

  fourth : slice_index line (at + 3) ≡ digit (number % 16)
  fourth = cc same

-- the digits of a number that is given by its digits' values
digits_of : (a b c d : ℕ) → a < 16 → b < 16 → c < 16 → d < 16
    → digits (a * 4096 + b * 256 + c * 16 + d) ≡ digit a ∷ digit b ∷ digit c ∷ digit d ∷ []
digits_of a b c d below-a below-b below-c below-d =
    let n = a * 4096 + b * 256 + c * 16 + d in
    let first : n / 4096 % 16 ≡ a = omega arith in
    let second : n / 256 % 16 ≡ b = omega arith in
    let third : n / 16 % 16 ≡ c = omega arith in
    let fourth : n % 16 ≡ d = omega arith in
    rw (first, second, third, fourth) refl

pub returns-in_err-first : goal.returns-in_err-first
returns-in_err-first c = rw c.from_residual.ensures record {
  some = tt;
  none = λ number e. c.in_err-first.ensures.none (number / 4096 % 16) (omega arith) (first c.args.line.now c.args.at c.requires number e);
}

pub returns-in_err-second : goal.returns-in_err-second
returns-in_err-second c = rw c.from_residual-in_err-second.ensures record {
  some = tt;
  none = λ number e. c.in_err-second.ensures.none (number / 256 % 16) (omega arith) (second c.args.line.now c.args.at c.requires number e);
}

pub returns-in_err-third : goal.returns-in_err-third
returns-in_err-third c = rw c.from_residual-in_err-third.ensures record {
  some = tt;
  none = λ number e. c.in_err-third.ensures.none (number / 16 % 16) (omega arith) (third c.args.line.now c.args.at c.requires number e);
}

pub returns-in_err-fourth : goal.returns-in_err-fourth
returns-in_err-fourth c = rw c.from_residual-in_err-fourth.ensures record {
  some = tt;
  none = λ number e. c.in_err-fourth.ensures.none (number % 16) (omega arith) (fourth c.args.line.now c.args.at c.requires number e);
}

pub returns : goal.returns
returns c =
    let (small-a, is-a, a) = c.in_ok-first.ensures.some in
    let (small-b, is-b, b) = c.in_ok-second.ensures.some in
    let (small-c, is-c, x) = c.in_ok-third.ensures.some in
    let (small-d, is-d, d) = c.in_ok-fourth.ensures.some in
    record {
      some = (
        four c.args.line.now c.args.at c.requires
            ∙ rw (is-a, is-b, is-c, is-d, digits_of c.in_ok-first.first c.in_ok-second.second c.in_ok-third.third c.in_ok-fourth.fourth small-a small-b small-c small-d) refl,
        rw (← a, ← b, ← x, ← d) (omega arith),
      );
      none = tt;
    }
