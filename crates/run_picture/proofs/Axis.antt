-- The axis: its step, and its numbers one by one.
use Rattle.std.proofs.Common.{◌≡◌, ◌∙◌, ap, sym, subst, refl, ℕ, zero, suc, ◌+◌, ◌-◌, ◌*◌, ◌^◌, ◌<◌, ◌≤◌, ◌⊎◌, inl, inr, true, false, List, [], ◌∷◌, ◌++◌, Option, Some, None, SomeIff, map, append_assoc, arith}
use Rattle.std.specs.List.{take_while}
use Rattle.std.proofs.lemmas.Grind.{common_steps}
use Rattle.std.proofs.lemmas.List.{append-nil}
use Rattle.std.proofs.lemmas.List.Sums.{take_while-cons}
use Rattle.std.proofs.Math.Nat.{pow-zero, pow-succ', eq-or-lt_of_le}
use Rattle.run_picture.specs.declared.layout.axis.AxisNumber.{AxisNumber}
use Rattle.run_picture.specs.Axis.{round_number, AreFarApart, IsRoundStep, FirstFarApart, row_from, number_at, is_on_axis}

-- ---- round numbers, three by three

abbrev pub thrice : ℕ → ℕ
thrice zero = zero
thrice (suc i) = suc (suc (suc (thrice i)))

pub round_first : (i : ℕ) → round_number (thrice i) ≡ 10 ^ i
round_first zero = sym (pow-zero 10)
round_first (suc i) = ap (λ n. 10 * n) (round_first i) ∙ sym (pow-succ' 10 i)

pub round_second : (i : ℕ) → round_number (suc (thrice i)) ≡ 2 * 10 ^ i
round_second zero = ap (λ n. 2 * n) (sym (pow-zero 10))
round_second (suc i) = omega (arith, round_second i, pow-succ' 10 i)

pub round_third : (i : ℕ) → round_number (suc (suc (thrice i))) ≡ 5 * 10 ^ i
round_third zero = ap (λ n. 5 * n) (sym (pow-zero 10))
round_third (suc i) = omega (arith, round_third i, pow-succ' 10 i)

-- powers of ten grow
pub ten_below : (i n : ℕ) → i ≤ n → 10 ^ i ≤ 10 ^ n
ten_below i zero low =
    let is : i ≡ zero = omega (arith, low) in
    subst (λ k. 10 ^ k ≤ 10 ^ zero) (sym is) (omega arith)
ten_below i (suc n) low =
    elim (eq-or-lt_of_le low) [
      | inl e ↦ subst (λ k. 10 ^ i ≤ 10 ^ k) e (omega arith)
      | inr lower ↦ omega (arith, ten_below i n (omega (arith, lower)), pow-succ' 10 n)
    ]

-- a round number is not 0
pub some_round : (k : ℕ) → 0 < round_number k
some_round zero = omega arith
some_round (suc zero) = omega arith
some_round (suc (suc zero)) = omega arith
some_round (suc (suc (suc k))) = omega (arith, some_round k)

-- none of these round numbers is one whose ticks are far enough apart
abbrev pub NoneFar : ℕ → ℕ → ℕ → Type 0
NoneFar moments width upto = (k : ℕ) → k < upto → ¬ AreFarApart moments width (round_number k)

none_more : (moments width upto number : ℕ) → NoneFar moments width upto → round_number upto ≡ number → ¬ AreFarApart moments width number
    → NoneFar moments width (suc upto)
none_more moments width upto number none is not k low far =
    elim (eq-or-lt_of_le {n = k} {m = upto} (omega (arith, low))) [
      | inl e ↦ not (subst (AreFarApart moments width) (ap round_number e ∙ is) far)
      | inr lower ↦ none k lower far
    ]

-- none of three more
pub none_of_three : (moments width i power : ℕ) → power ≡ 10 ^ i → NoneFar moments width (thrice i) → FirstFarApart moments width power None
    → NoneFar moments width (thrice (suc i))
none_of_three moments width i power is none none_now =
    none_more moments width (suc (suc (thrice i))) (5 * power)
    (none_more moments width (suc (thrice i)) (2 * power)
    (none_more moments width (thrice i) power none (round_first i ∙ sym is) none_now.0)
    (round_second i ∙ ap (λ n. 2 * n) (sym is)) none_now.1)
    (round_third i ∙ ap (λ n. 5 * n) (sym is)) none_now.2

-- the first of three
pub found : (moments width i power step : ℕ) → power ≡ 10 ^ i → NoneFar moments width (thrice i) → FirstFarApart moments width power (Some step)
    → IsRoundStep moments width step
found moments width i power step is none first =
    elim first.1 [
      | inl one ↦ record { which = thrice i; round = one ∙ is ∙ sym (round_first i); first = none; far = inl first.0 }
      | inr more ↦ elim more [
        | inl two ↦ record {
          which = suc (thrice i);
          round = two.0 ∙ ap (λ n. 2 * n) is ∙ sym (round_second i);
          first = none_more moments width (thrice i) power none (round_first i ∙ sym is) two.1;
          far = inl first.0;
        }
        | inr five ↦ record {
          which = suc (suc (thrice i));
          round = five.0 ∙ ap (λ n. 5 * n) is ∙ sym (round_third i);
          first = none_more moments width (suc (thrice i)) (2 * power)
              (none_more moments width (thrice i) power none (round_first i ∙ sym is) five.1)
              (round_second i ∙ ap (λ n. 2 * n) (sym is)) five.2;
          far = inl first.0;
        }
      ]
    ]

-- where none was found
pub not_found : (moments width step : ℕ) → step ≡ 10 ^ 19 → NoneFar moments width (thrice 19) → IsRoundStep moments width step
not_found moments width step is none = record { which = thrice 19; round = is ∙ sym (round_first 19); first = none; far = inr is }

-- the step is not 0
pub some_step : (moments width step : ℕ) → IsRoundStep moments width step → 0 < step
some_step moments width step round = subst (λ n. 0 < n) (sym round.round) (some_round round.which)

-- ---- the numbers

-- those that are still to come, from one on
abbrev pub row : ℕ → ℕ → ℕ → ℕ → ℕ → ℕ → List AxisNumber
row columns first moments step event left = take_while (is_on_axis columns) (map (number_at first moments) (row_from step event left))

-- none, where 64 bits do not hold the next one
abbrev pub ahead : ℕ → ℕ → ℕ → ℕ → Option ℕ → ℕ → List AxisNumber
ahead columns first moments step (Some event) left = row columns first moments step event left
ahead columns first moments step None left = []

-- the row ends where a number is not on the axis
row_ends : (columns first moments step event left : ℕ) → is_on_axis columns (number_at first moments event) ≡ false
    → row columns first moments step event left ≡ []
row_ends columns first moments step event zero out = refl
row_ends columns first moments step event (suc left) out =
    take_while-cons (is_on_axis columns) (number_at first moments event) (map (number_at first moments) (row_from step (event + step) left))
    ∙ rw out refl

-- where there is no column for it
pub no_column : (columns first moments step event left : ℕ) → columns ≤ (number_at first moments event).place → row columns first moments step event left ≡ []
no_column columns first moments step event left out =
    row_ends columns first moments step event left (grind (arith, common_steps))

-- where 64 bits do not hold it
pub too_great : (columns first moments step event left : ℕ) → 2 ^ 64 ≤ event → row columns first moments step event left ≡ []
too_great columns first moments step event left out =
    row_ends columns first moments step event left (grind (arith, common_steps))

-- else it goes on
pub row_goes_on : (columns first moments step event left : ℕ) → (number_at first moments event).place < columns → event < 2 ^ 64
    → row columns first moments step event (suc left) ≡ number_at first moments event ∷ row columns first moments step (event + step) left
row_goes_on columns first moments step event left within fits =
    let on : is_on_axis columns (number_at first moments event) ≡ true = grind (arith, common_steps) in
    take_while-cons (is_on_axis columns) (number_at first moments event) (map (number_at first moments) (row_from step (event + step) left))
    ∙ rw on refl

-- ---- the next number, if 64 bits hold it

abbrev pub IsHeld : Option ℕ → Type 0
IsHeld None = Unit {0}
IsHeld (Some event) = event < 2 ^ 64

abbrev pub IsNext : Option ℕ → ℕ → Type 0
IsNext None event = 2 ^ 64 ≤ event
IsNext (Some next) event = (next ≡ event) × (event < 2 ^ 64)

-- what is not below is not less
not_below : (n m : ℕ) → ¬ (n < m) → m ≤ n
not_below n m not = grind (arith, common_steps)

pub multiple_next : (next : Option ℕ) (step event : ℕ) → 0 < step → SomeIff next ((0 < step) × (event < 2 ^ 64)) event → IsNext next event
multiple_next None step event some is = not_below event (2 ^ 64) (λ low. is (some, low))
multiple_next (Some next) step event some is = (is.1, is.0.1)

pub sum_next : (next : Option ℕ) (event : ℕ) → SomeIff next (event < 2 ^ 64) event → IsNext next event
sum_next None event is = not_below event (2 ^ 64) is
sum_next (Some next) event is = (is.1, is.0)

pub next-held : (next : Option ℕ) (event : ℕ) → IsNext next event → IsHeld next
next-held None event is = tt
next-held (Some next) event is = subst (λ n. n < 2 ^ 64) (sym is.0) is.1

next_row : (columns first moments step : ℕ) (next : Option ℕ) (event left : ℕ) → IsNext next event
    → ahead columns first moments step next left ≡ row columns first moments step event left
next_row columns first moments step None event left is = sym (too_great columns first moments step event left is)
next_row columns first moments step (Some next) event left is = ap (λ n. row columns first moments step n left) is.0

-- before the first number all are to come
pub row_begins : (columns first moments step : ℕ) (next : Option ℕ) (event : ℕ) (numbers : List AxisNumber) → numbers ≡ [] → IsNext next event
    → numbers ++ ahead columns first moments step next (columns - 0) ≡ row columns first moments step event columns
row_begins columns first moments step next event numbers none is =
    let all : columns - 0 ≡ columns = omega arith in
    ap (λ ns. ns ++ ahead columns first moments step next (columns - 0)) none
    ∙ next_row columns first moments step next event (columns - 0) is ∙ ap (λ n. row columns first moments step event n) all

-- one number more
pub row_more : (columns first moments step counter event : ℕ) (next after : Option ℕ) (number : AxisNumber) (old new all : List AxisNumber) → counter < columns
    → next ≡ Some event → IsHeld next → number ≡ number_at first moments event → number.place < columns → IsNext after (event + step)
    → new ≡ old ++ number ∷ [] → old ++ ahead columns first moments step next (columns - counter) ≡ all
    → new ++ ahead columns first moments step after (columns - (counter + 1)) ≡ all
row_more columns first moments step counter event next after number old new all within is held is_number inside is_next is_new so_far =
    let left = columns - (counter + 1) in
    let one_more : suc left ≡ columns - counter = omega (arith, within) in
    let fits : event < 2 ^ 64 = rw is at held in
    let there : (number_at first moments event).place < columns = rw is_number at inside in
    ap (λ ns. ns ++ ahead columns first moments step after left) is_new
    ∙ append_assoc old (number ∷ []) (ahead columns first moments step after left)
    ∙ ap (λ ns. old ++ number ∷ ns) (next_row columns first moments step after (event + step) left is_next)
    ∙ ap (λ n. old ++ n ∷ row columns first moments step (event + step) left) is_number
    ∙ ap (λ ns. old ++ ns) (sym (row_goes_on columns first moments step event left there fits))
    ∙ ap (λ n. old ++ row columns first moments step event n) one_more
    ∙ ap (λ o. old ++ ahead columns first moments step o (columns - counter)) (sym is)
    ∙ so_far

-- where there is no column for the next number, all are there
pub row_over : (columns first moments step left event : ℕ) (next : Option ℕ) (number : AxisNumber) (numbers all : List AxisNumber) → next ≡ Some event
    → number ≡ number_at first moments event → columns ≤ number.place → numbers ++ ahead columns first moments step next left ≡ all → numbers ≡ all
row_over columns first moments step left event next number numbers all is is_number out so_far =
    let none : ahead columns first moments step next left ≡ [] =
    ap (λ o. ahead columns first moments step o left) is ∙ no_column columns first moments step event left (rw is_number at out) in
    sym (append-nil numbers) ∙ ap (λ ns. numbers ++ ns) (sym none) ∙ so_far

-- where no number is left to come, all are there
pub row_done : (columns first moments step left : ℕ) (next : Option ℕ) (numbers all : List AxisNumber) → (next ≡ None) ⊎ (left ≡ 0)
    → numbers ++ ahead columns first moments step next left ≡ all → numbers ≡ all
row_done columns first moments step left None numbers all end so_far = sym (append-nil numbers) ∙ so_far
row_done columns first moments step left (Some next) numbers all (inl is) so_far = grind (arith, common_steps)
row_done columns first moments step left (Some next) numbers all (inr is) so_far =
    let none : row columns first moments step next left ≡ [] = rw is refl in
    sym (append-nil numbers) ∙ ap (λ ns. numbers ++ ns) (sym none) ∙ so_far
