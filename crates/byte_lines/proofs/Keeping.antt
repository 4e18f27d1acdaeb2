-- What is kept of a line under way, and what more bytes make of it.
use Rattle.std.proofs.Common.{◌≡◌, ℕ, ◌+◌, ◌-◌, ◌<◌, ◌≤◌, ◌||◌, Bool, true, false, min, List, [], ◌∷◌, ◌++◌, length, take, map, refl, ap, sym, ◌∙◌, arith}
use Rattle.std.specs.Prelude.{nat_lt}
use Rattle.std.proofs.lemmas.Grind.{common_steps}
use Rattle.std.proofs.lemmas.Bool.Decides.{nat_tests}
use Rattle.std.proofs.lemmas.List.{take-append-le, take_all, take_min, length-take-le, length-append}
use Rattle.std.proofs.Math.Seq.{take-append-add}
use Rattle.byte_lines.specs.Lines.{newline, HasNoNewline, lines_after, half_after}
use Rattle.byte_lines.specs.Kept.{Kept, kept, kept_more, Reads}
use Rattle.byte_lines.proofs.Growing.{grow}

kept_is : (a b : List ℕ) (x y : Bool) → a ≡ b → x ≡ y → ◌≡◌ {A = Kept} (record { first = a; is_long = x }) (record { first = b; is_long = y })
kept_is a b x y same long = rw (same, long) refl

by_test : {P : Type 0} → (b : Bool) → (b ≡ true → P) → (b ≡ false → P) → P
by_test true if_so if_not = if_so refl
by_test false if_so if_not = if_not refl

-- a line that is kept whole, and a longer one
then_short : (n : ℕ) (line more : List ℕ) → nat_lt n (length line) ≡ false → kept_more n (kept n line) more ≡ kept n (line ++ more)
then_short n line more short =
    let few : length line ≤ n = grind (arith, nat_tests) in
    rw (take_all n line few, short) refl

then_long : (n : ℕ) (line more : List ℕ) → nat_lt n (length line) ≡ true → kept_more n (kept n line) more ≡ kept n (line ++ more)
then_long n line more long =
    let many : n < length line = grind (arith, nat_tests) in
    let len : length (take n line) ≡ n = length-take-le n line (omega (arith, many)) in
    let first : take n (take n line ++ more) ≡ take n (line ++ more) =
    take-append-le n (take n line) more (omega (arith, len)) ∙ take_all n (take n line) (omega (arith, len)) ∙ sym (take-append-le n line more (omega (arith, many))) in
    let both : length (line ++ more) ≡ length line + length more = length-append line more in
    let longer : nat_lt n (length (line ++ more)) ≡ true = grind (arith, nat_tests) in
    kept_is (take n (take n line ++ more)) (take n (line ++ more)) (nat_lt n (length line) || nat_lt n (length (take n line ++ more)))
    (nat_lt n (length (line ++ more))) first (rw (long, longer) refl)

-- what is kept of a line, with more bytes after it
pub kept_then : (n : ℕ) (line more : List ℕ) → kept_more n (kept n line) more ≡ kept n (line ++ more)
kept_then n line more = by_test (nat_lt n (length line)) (then_long n line more) (then_short n line more)

-- what is kept is that of some line
pub of_some : (n : ℕ) (first : List ℕ) (long : Bool) → length first ≤ n → (long ≡ true → length first ≡ n)
    → (half : List ℕ) × (◌≡◌ {A = Kept} (record { first = first; is_long = long }) (kept n half))
of_some n first false few full =
    let fits : nat_lt n (length first) ≡ false = grind (arith, nat_tests) in
    (first, kept_is first (take n first) false (nat_lt n (length first)) (sym (take_all n first few)) (sym fits))
of_some n first true few full =
    let len : length first ≡ n = full refl in
    let all : length (first ++ 0 ∷ []) ≡ length first + 1 = length-append first (0 ∷ []) in
    let more : nat_lt n (length (first ++ 0 ∷ [])) ≡ true = grind (arith, nat_tests) in
    let same : take n (first ++ 0 ∷ []) ≡ first = take-append-le n first (0 ∷ []) (omega (arith, len)) ∙ take_all n first few in
    (first ++ 0 ∷ [], kept_is first (take n (first ++ 0 ∷ [])) true (nat_lt n (length (first ++ 0 ∷ []))) (sym same) (sym more))

-- as many bytes as there is room for were put after those that are kept
long_either : {a : List ℕ} → (long : Bool) → ◌≡◌ {A = Kept} (record { first = a; is_long = true }) (record { first = a; is_long = long || true })
long_either true = refl
long_either false = refl

module _ (n a : ℕ) (old more : List ℕ) (within : a ≤ length old) (few : a ≤ n) where
  abbrev pub count : ℕ
  count = min (n - a) (length more)

  pub filled : take a old ++ take count more ≡ take n (take a old ++ more)
  filled =
      let len : length (take a old) ≡ a = length-take-le a old within in
      let all : length (take a old) + (n - a) ≡ n = omega (arith, len, few) in
      ap (λ ys. take a old ++ ys) (take_min (n - a) more) ∙ sym (take-append-add (take a old) more (n - a)) ∙ ap (λ k. take k (take a old ++ more)) all

  both : length (take a old ++ more) ≡ a + length more
  both = length-append (take a old) more ∙ ap (λ k. k + length more) (length-take-le a old within)

  pub too_many : count < length more → nat_lt n (length (take a old ++ more)) ≡ true
  too_many h = let len = both in grind (arith, common_steps, nat_tests)

  pub kept_long : (k : Kept) (first now : List ℕ) (long : Bool) → k ≡ record { first = take a old; is_long = long } → first ≡ take a old ++ now
      → now ≡ take count more → count < length more → ◌≡◌ {A = Kept} (record { first = first; is_long = true }) (kept_more n k more)
  kept_long k first now long is placed copied many =
      let firsts : first ≡ take n (take a old ++ more) = placed ∙ ap (λ ys. take a old ++ ys) copied ∙ filled in
      rw (is, firsts, too_many many) (long_either long)

-- a piece up to its first newline
pub up_to : (line rest piece : List ℕ) → piece ≡ line ++ newline ∷ rest → take (length line + 1) piece ≡ line ++ newline ∷ []
up_to line rest piece is = ap (take (length line + 1)) is ∙ take-append-add line (newline ∷ rest) 1

module _ {X : Type 0} (n : ℕ) (reading : List ℕ → X) (old : Kept) where
  -- a newline ends the half line with what stands in front of it
  pub line_read : (new : Kept) (line bytes : List ℕ) (said : X) → new ≡ kept n [] → HasNoNewline line → bytes ≡ line ++ newline ∷ []
      → ((half : List ℕ) → old ≡ kept n half → said ≡ reading (half ++ line)) → Reads n reading old new bytes (said ∷ [])
  line_read new line bytes said none one is read = record {
    half = λ half kept_is. none ∙ ap (kept n) (sym (ap (half_after half) is ∙ grow.begun half line [] one));
    lines = λ half kept_is. ap (λ x. x ∷ []) (read half kept_is) ∙ ap (map reading) (sym (ap (lines_after half) is ∙ grow.ended half line [] one));
  }

  -- other bytes go on with it
  pub none_read : (new : Kept) (more : List ℕ) → new ≡ kept_more n old more → HasNoNewline more → Reads n reading old new more []
  none_read new more is none = record {
    half = λ half kept_is. is ∙ ap (λ k. kept_more n k more) kept_is ∙ kept_then n half more ∙ ap (kept n) (sym (grow.longer half more none));
    lines = λ half kept_is. ap (map reading) (sym (grow.same half more none));
  }
