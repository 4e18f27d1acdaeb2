-- What is to come, and what is read of it, by rows that are small enough to see through.
use Rattle.std.proofs.Common.{◌≡◌, ℕ, [], ◌∷◌, Ok, Err, Some, refl, arith}
use Rattle.std.proofs.lemmas.Grind.{common_steps}
use Rattle.flight_records.specs.declared.entry.Entry.{Entry}
use Rattle.flight_records.specs.declared.entry.Noted.TheVariants as noted
use Rattle.flight_records.specs.declared.entry.Deed.TheVariants.{Ticks}
use Rattle.flight_records.specs.Reading.{entry_at, count_of, checked, entry_of, candidate}
use Rattle.flight_records.specs.leb128.Reading.{number_at}
use Rattle.record_pages.specs.declared.stop.Stop.TheVariants.{End, Torn}
use Rattle.record_pages.specs.Pages.{to_come, has_ended, ReadsNext}

abbrev tick : ℕ → Entry
tick instant = record { instant = instant; noted = noted.Deed Ticks }

all : to_come (Some (15 ∷ 25 ∷ [])) (7 ∷ 208 ∷ []) ≡ Some (7 ∷ 208 ∷ 15 ∷ 25 ∷ [])
all = refl

not-the-other_way_round : to_come (Some (15 ∷ 25 ∷ [])) (7 ∷ 208 ∷ []) ≡ Some (15 ∷ 25 ∷ 7 ∷ 208 ∷ []) → ⊥
not-the-other_way_round e = grind (arith, common_steps)

no-more : has_ended (Some [])
no-more = refl

one-more : has_ended (Some (7 ∷ [])) → ⊥
one-more e = grind (arith, common_steps)

-- the tick of the instant 4000, and one byte more
read : ReadsNext 2000 (Ok (tick 4000)) (Some (7 ∷ 208 ∷ 15 ∷ 25 ∷ 9 ∷ [])) (Some (9 ∷ [])) 4000
unfolding entry_at number_at count_of checked entry_of candidate
read = (9 ∷ [], refl, refl, refl)

no-byte-is-lost : ReadsNext 2000 (Ok (tick 4000)) (Some (7 ∷ 208 ∷ 15 ∷ 25 ∷ 9 ∷ [])) (Some []) 4000 → ⊥
unfolding entry_at number_at count_of checked entry_of candidate
no-byte-is-lost h = grind (arith, common_steps, h)

torn : ReadsNext 2000 (Err Torn) (Some (7 ∷ 208 ∷ [])) (Some (7 ∷ 208 ∷ [])) 2000
unfolding entry_at number_at count_of
torn = (refl, refl, λ e. grind (arith, common_steps), refl)

not-yet-the-end : ReadsNext 2000 (Err End) (Some (7 ∷ [])) (Some (7 ∷ [])) 2000 → ⊥
not-yet-the-end h = let none = h.2 in grind (arith, common_steps)
