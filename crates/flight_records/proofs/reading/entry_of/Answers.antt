use Rattle.std.proofs.Common.{◌≡◌, ◌∙◌, ℕ, ◌+◌, ◌-◌, ◌^◌, ◌<◌, ◌≤◌, List, [], ◌∷◌, length, take, drop, slice_index, Some, Ok, Err, refl, arith}
use Rattle.std.proofs.lemmas.Grind.{common_steps}
use Rattle.std.proofs.lemmas.List.{take_rest}
use Rattle.leb128.specs.declared.unread.Unread.TheVariants.{Invalid}
use Rattle.flight_records.specs.declared.entry.Noted.{Noted}
use Rattle.flight_records.specs.Reading.{candidate, with_fields, entry_with, entry_of}
use Rattle.flight_records.proofs.reading.entry_of.Goals as goal

module _ (last kind : ℕ) where
  -- no numbers note nothing
  none : (ns : List ℕ) → length ns < 1 → entry_of last kind ns ≡ Err Invalid
  unfolding entry_of
  none [] below = refl
  none (n ∷ ns) below = absurd (omega arith)

  -- the entry of a first number and the others
  more : (ns : List ℕ) → 1 ≤ length ns →
      let fields = take (length ns - 1) (drop 1 ns) in
      entry_of last kind ns ≡ entry_with (last + slice_index ns 0) (with_fields fields (candidate kind fields))
  unfolding entry_of
  more [] above = absurd (omega arith)
  more (n ∷ ns) above = rw (take_rest (n ∷ ns) 1) refl

-- the entry at an instant that is a number of 64 bits, and none past that
module _ (instant : ℕ) (noted : Noted) where
  fits : instant < 2 ^ 64 → entry_with instant (Some noted) ≡ Ok record { instant = instant; noted = noted }
  fits below = grind (arith, common_steps)

  past : (instant < 2 ^ 64 → ⊥) → entry_with instant (Some noted) ≡ Err Invalid
  past above = grind (arith, common_steps)

pub returns-in_default : goal.returns-in_default
returns-in_default c = none c.args.last c.args.kind c.args.numbers.now c.in_default.len_below

pub returns-in_default-of : goal.returns-in_default-of
returns-in_default-of c =
    more c.args.last c.args.kind c.args.numbers.now c.in-len1-up.len_at_least ∙ rw (← c.of.ensures, c.in_default-of.is) refl

pub returns-in-Some-checked_add : goal.returns-in-Some-checked_add
returns-in-Some-checked_add c =
    let (below, same) = c.in-Some-checked_add.ensures in
    more c.args.last c.args.kind c.args.numbers.now c.in-len1-up.len_at_least
    ∙ rw (← c.of.ensures, c.in-Some.is, same) (fits (c.args.last + slice_index c.args.numbers.now 0) c.in-Some.noted below)

pub returns-in-None : goal.returns-in-None
returns-in-None c =
    more c.args.last c.args.kind c.args.numbers.now c.in-len1-up.len_at_least
    ∙ rw (← c.of.ensures, c.in-Some.is) (past (c.args.last + slice_index c.args.numbers.now 0) c.in-Some.noted c.in-None.ensures)
