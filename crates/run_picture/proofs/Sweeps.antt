-- The numbers over the ticks, column by column.
use Rattle.std.proofs.Common.{◌≡◌, ◌∙◌, ap, sym, subst, refl, ℕ, suc, ◌+◌, ◌-◌, ◌<◌, ◌&&◌, ◌⊎◌, inl, inr, Bool, true, false, if◌then◌else◌, nat_lt, nat_le, List, [], ◌∷◌, ◌++◌, length, take, slice_index_or, arith}
use Rattle.std.specs.List.{AllByRecursion, sum_by}
use Rattle.std.proofs.lemmas.Grind.{common_steps}
use Rattle.std.proofs.lemmas.List.Sums.{sum_by-append}
use Rattle.std.proofs.lemmas.Option.{slice_get-get_or}
use Rattle.std.proofs.Math.Nat.{eq-or-lt_of_le}
use Rattle.std.proofs.Math.Seq.{take-suc}
use Rattle.run_recording.specs.judge.Judging.{counted_up_to}
use Rattle.run_recording.specs.declared.column.Column.{Column}
use Rattle.run_picture.specs.declared.layout.page.Page.{Page}
use Rattle.run_picture.specs.declared.layout.ruler.SweepNumber.{SweepNumber}
use Rattle.run_picture.specs.Page.{middle_of}
use Rattle.run_picture.specs.Ruler.{ended_in, HasTick, IsSweepNumber, room_after, HaveRoom, IsTaken, AreNumbers, has_room, with_number}

-- ---- how many sweeps have ended

counted_twice : (a b : ℕ) → counted_up_to (counted_up_to a + b) ≡ counted_up_to (a + b)
counted_twice a b = grind (arith, common_steps)

-- in one column more
pub ended_next : (before : ℕ) (columns : List Column) (place : ℕ) (d : Column) → place < length columns
    → counted_up_to (ended_in before (take place columns) + (slice_index_or columns place d).sweeps) ≡ ended_in before (take (place + 1) columns)
ended_next before columns place d within =
    let first = take place columns in
    let c = slice_index_or columns place d in
    let sweeps = λ (column : Column). column.sweeps in
    let next : place + 1 ≡ suc place = omega arith in
    let alone : 0 + c.sweeps ≡ c.sweeps = omega arith in
    let one_more : sum_by sweeps (take (place + 1) columns) ≡ sum_by sweeps first + c.sweeps =
    ap (λ k. sum_by sweeps (take k columns)) next ∙ ap (sum_by sweeps) (take-suc columns place d within) ∙ sum_by-append sweeps first (c ∷ []) ∙ ap (λ n. sum_by sweeps first + n) alone in
    counted_twice (before + sum_by sweeps first) c.sweeps
    ∙ ap counted_up_to (omega (arith, one_more))

-- ---- numbers, and one more

-- what is inside a part of the columns is inside a larger one
lifted : (before : ℕ) (columns : List Column) (place : ℕ) (numbers : List SweepNumber)
    → AllByRecursion (IsSweepNumber before columns place) numbers → AllByRecursion (IsSweepNumber before columns (place + 1)) numbers
lifted before columns place [] all = tt
lifted before columns place (number ∷ numbers) all =
    ((omega (arith, all.0.0), all.0.1, all.0.2), lifted before columns place numbers all.1)

both_right : (before : ℕ) (columns : List Column) (upto : ℕ) (numbers : List SweepNumber) (new : SweepNumber)
    → AllByRecursion (IsSweepNumber before columns upto) numbers → IsSweepNumber before columns upto new
    → AllByRecursion (IsSweepNumber before columns upto) (numbers ++ new ∷ [])
both_right before columns upto [] new all right = (right, tt)
both_right before columns upto (number ∷ numbers) new all right = (all.0, both_right before columns upto numbers new all.1 right)

both_apart : (page : Page) (numbers : List SweepNumber) (new : SweepNumber) → HaveRoom page numbers → has_room page numbers new.place ≡ true
    → HaveRoom page (numbers ++ new ∷ [])
both_apart page [] new apart room = tt
both_apart page (number ∷ []) new apart room = (grind (arith, common_steps), tt)
both_apart page (number ∷ next ∷ numbers) new apart room = (apart.0, both_apart page (next ∷ numbers) new apart.1 room)

-- what was taken is still so
still_taken : (page : Page) (numbers : List SweepNumber) (new : SweepNumber) (place : ℕ) → IsTaken page numbers place → IsTaken page (numbers ++ new ∷ []) place
still_taken page [] new place taken = elim taken [ ]
still_taken page (number ∷ numbers) new place (inl here) = inl here
still_taken page (number ∷ numbers) new place (inr (inl near)) = inr (inl near)
still_taken page (number ∷ numbers) new place (inr (inr later)) = inr (inr (still_taken page numbers new place later))

-- a number takes its own place
own_taken : (page : Page) (numbers : List SweepNumber) (new : SweepNumber) → IsTaken page (numbers ++ new ∷ []) new.place
own_taken page [] new = inl refl
own_taken page (number ∷ numbers) new = inr (inr (own_taken page numbers new))

-- where there is no room, a number is near
no_room : (before : ℕ) (columns : List Column) (page : Page) (numbers : List SweepNumber) (place : ℕ)
    → AllByRecursion (IsSweepNumber before columns place) numbers → has_room page numbers place ≡ false → IsTaken page numbers place
no_room before columns page [] place all none = grind (arith, common_steps)
no_room before columns page (number ∷ []) place all none = inr (inl (all.0.0, grind (arith, common_steps)))
no_room before columns page (number ∷ next ∷ numbers) place all none = inr (inr (no_room before columns page (next ∷ numbers) place all.1 none))

-- a tick is a column in which a sweep ends
has_tick : (columns : List Column) (place : ℕ) (d : Column) → place < length columns → 0 < (slice_index_or columns place d).sweeps → HasTick columns place
has_tick columns place d within some = rw (slice_get-get_or columns place d within) some

tick_sweeps : (columns : List Column) (place : ℕ) (d : Column) → place < length columns → HasTick columns place → 0 < (slice_index_or columns place d).sweeps
tick_sweeps columns place d within tick = rw (slice_get-get_or columns place d within) at tick

-- a place is below, or is the last one
below_or_last : (place upto : ℕ) → place < upto + 1 → (place ≡ upto) ⊎ (place < upto)
below_or_last place upto within = eq-or-lt_of_le (omega (arith, within))

no_tick : {X : Type 0} (n : ℕ) → 0 < n → nat_lt 0 n ≡ false → X
no_tick n some none = grind (arith, common_steps)

module _ (page : Page) (before : ℕ) (columns : List Column) (place ended : ℕ) (d : Column) (numbers : List SweepNumber) (within : place < length columns) (old : AreNumbers page before columns place numbers) (ended_is : ended ≡ ended_in before (take (place + 1) columns)) where
  abbrev new : SweepNumber
  new = record { place = place; ended = ended }

  -- by whether a sweep ends in the column, and whether there is room
  one_more : (some room : Bool) → nat_lt 0 (slice_index_or columns place d).sweeps ≡ some → has_room page numbers place ≡ room
      → AreNumbers page before columns (place + 1) (if some && room then numbers ++ new ∷ [] else numbers)
  one_more true true some room =
      let next : place + 1 ≡ suc place = omega arith in
      let right : IsSweepNumber before columns (place + 1) new =
      (omega arith, has_tick columns place d within (grind (arith, common_steps)), subst (λ k. ended ≡ ended_in before (take k columns)) next ended_is) in
      record {
        right = both_right before columns (place + 1) numbers new (lifted before columns place numbers old.right) right;
        apart = both_apart page numbers new old.apart room;
        taken = λ p below tick. elim (below_or_last p place below) [
          | inl e ↦ subst (λ k. IsTaken page (numbers ++ new ∷ []) k) (sym e) (own_taken page numbers new)
          | inr lower ↦ still_taken page numbers new p (old.taken p lower tick)
        ];
      }
  one_more true false some none = record {
    right = lifted before columns place numbers old.right;
    apart = old.apart;
    taken = λ p below tick. elim (below_or_last p place below) [
      | inl e ↦ subst (λ k. IsTaken page numbers k) (sym e) (no_room before columns page numbers place old.right none)
      | inr lower ↦ old.taken p lower tick
    ];
  }
  one_more false room none is = record {
    right = lifted before columns place numbers old.right;
    apart = old.apart;
    taken = λ p below tick. elim (below_or_last p place below) [
      | inl e ↦ no_tick (slice_index_or columns place d).sweeps (tick_sweeps columns place d within (subst (λ k. HasTick columns k) e tick)) none
      | inr lower ↦ old.taken p lower tick
    ];
  }

  pub numbers_next : AreNumbers page before columns (place + 1) (with_number page (slice_index_or columns place d).sweeps new numbers)
  numbers_next = one_more (nat_lt 0 (slice_index_or columns place d).sweeps) (has_room page numbers place) refl refl

-- one column more
pub sweeps_step : (page : Page) (before : ℕ) (columns : List Column) (place : ℕ) (d : Column) (was is : ℕ) (old after : List SweepNumber) → place < length columns
    → was ≡ ended_in before (take place columns) → AreNumbers page before columns place old
    → is ≡ counted_up_to (was + (slice_index_or columns place d).sweeps)
    → after ≡ with_number page (slice_index_or columns place d).sweeps (record { place = place; ended = is }) old
    → (is ≡ ended_in before (take (place + 1) columns)) × AreNumbers page before columns (place + 1) after
sweeps_step page before columns place d was is old after within was_is numbers added next =
    let ended : is ≡ ended_in before (take (place + 1) columns) =
    added ∙ ap (λ n. counted_up_to (n + (slice_index_or columns place d).sweeps)) was_is ∙ ended_next before columns place d within in
    (ended, subst (λ ns. AreNumbers page before columns (place + 1) ns) (sym next) (numbers_next page before columns place is d old within numbers ended))

-- before the first column there is none
pub no_numbers : (page : Page) (before : ℕ) (columns : List Column) → AreNumbers page before columns 0 []
no_numbers page before columns = record { right = tt; apart = tt; taken = λ p below tick. omega (arith, below) }

-- ---- the last number

after_room : (page : Page) (a : SweepNumber) (numbers : List SweepNumber) (place : ℕ) (d : SweepNumber)
    → has_room page (a ∷ numbers) place ≡ nat_le (room_after page (slice_index_or (a ∷ numbers) (length numbers) d).place) (middle_of page place)
after_room page a [] place d = refl
after_room page a (b ∷ numbers) place d = after_room page b numbers place d

pub last_room : (page : Page) (numbers : List SweepNumber) (place : ℕ) (d : SweepNumber) → 0 < length numbers
    → has_room page numbers place ≡ nat_le (room_after page (slice_index_or numbers (length numbers - 1) d).place) (middle_of page place)
last_room page [] place d some = grind (arith, common_steps)
last_room page (a ∷ numbers) place d some =
    let last : length (a ∷ numbers) - 1 ≡ length numbers = omega arith in
    rw last (after_room page a numbers place d)
