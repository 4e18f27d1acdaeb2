-- Entries that are short enough to see through.
use Rattle.std.proofs.Common.{◌≡◌, ℕ, [], ◌∷◌, Ok, Err, refl, arith}
use Rattle.std.proofs.lemmas.Grind.{common_steps}
use Rattle.leb128.specs.declared.unread.Unread.TheVariants.{Short, Invalid}
use Rattle.leb128.specs.Spelling.{leb128}
use Rattle.leb128.specs.Reading.{number_at}
use Rattle.flight_records.specs.declared.entry.Entry.{Entry}
use Rattle.flight_records.specs.declared.entry.Noted.TheVariants as noted
use Rattle.flight_records.specs.declared.entry.Deed.TheVariants.{Ticks, SendsAgain, Asks}
use Rattle.flight_records.specs.Spelling.{spelling, record_of}
use Rattle.flight_records.specs.Reading.{entry_at, count_of, checked, entry_of, candidate}
use Rattle.flight_records.specs.Laws.{IsDeed, AreInOrder}

abbrev tick : ℕ → Entry
tick instant = record { instant = instant; noted = noted.Deed Ticks }

-- 2000 is 15 * 128 + 80, and 7 + 208 + 15 is 230
tick-after_two_milliseconds : spelling 2000 (tick 4000) ≡ 7 ∷ 208 ∷ 15 ∷ 25 ∷ []
unfolding spelling leb128
tick-after_two_milliseconds = refl

not-with_another_check : spelling 2000 (tick 4000) ≡ 7 ∷ 208 ∷ 15 ∷ 24 ∷ [] → ⊥
unfolding spelling leb128
not-with_another_check e = grind (arith, common_steps)

frame-again : spelling 4000 (record { instant = 4040; noted = noted.Deed (SendsAgain 3) }) ≡ 11 ∷ 40 ∷ 3 ∷ 201 ∷ []
unfolding spelling leb128
frame-again = refl

two-in_a_row : record_of 0 (tick 2000 ∷ tick 4000 ∷ []) ≡ 7 ∷ 208 ∷ 15 ∷ 25 ∷ 7 ∷ 208 ∷ 15 ∷ 25 ∷ []
unfolding spelling leb128
two-in_a_row = refl

read : entry_at 2000 (7 ∷ 208 ∷ 15 ∷ 25 ∷ 9 ∷ []) ≡ Ok (tick 4000, 9 ∷ [])
unfolding entry_at number_at count_of checked entry_of candidate
read = refl

cut : entry_at 2000 (7 ∷ 208 ∷ 15 ∷ []) ≡ Err Short
unfolding entry_at number_at count_of checked
cut = refl

other_check : entry_at 2000 (7 ∷ 208 ∷ 15 ∷ 24 ∷ []) ≡ Err Invalid
unfolding entry_at number_at count_of checked
other_check = refl

-- zeros, as they stand where nothing was written
zeros : entry_at 2000 (0 ∷ 0 ∷ 0 ∷ 0 ∷ []) ≡ Err Invalid
unfolding entry_at number_at count_of
zeros = refl

in_order : AreInOrder 0 (tick 2000 ∷ tick 2000 ∷ [])
in_order = (record { later = omega arith; wide = omega arith; noted = tt }, (record { later = omega arith; wide = omega arith; noted = tt }, tt))

not-earlier : AreInOrder 0 (tick 2000 ∷ tick 1999 ∷ []) → ⊥
not-earlier h = let later = h.1.0.later in omega (arith, later)

no-such_ticket : IsDeed (Asks 65536) → ⊥
no-such_ticket h = omega (arith, h)
