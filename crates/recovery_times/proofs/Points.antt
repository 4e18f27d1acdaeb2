-- What stands after the first point of a word.
use Rattle.std.proofs.Common.{◌≡◌, ◌∙◌, ap, ℕ, suc, ◌+◌, ◌*◌, ◌<◌, ◌≤◌, List, [], ◌∷◌, length, take, drop, Option, Some, None, Bor, slice_range, inl, inr, refl, sym, add-one, arith}
use Rattle.std.specs.List.{PartBy}
use Rattle.std.specs.Option.{option_map}
use Rattle.std.proofs.lemmas.Grind.{common_steps}
use Rattle.std.proofs.lemmas.Bool.Decides.{nat_tests}
use Rattle.recovery_times.specs.Reading.{point_at, after_point, whole_of, part_of, within_an_hour, micros_of}

there : (word : List ℕ) → point_at word < length word → after_point word ≡ Some (drop (suc (point_at word)) word)
there [] h = absurd (omega arith)
there (x ∷ word) h = grind (arith, nat_tests, there word)

nowhere : (word : List ℕ) → point_at word ≡ length word → after_point word ≡ None
nowhere [] e = refl
nowhere (x ∷ word) e = grind (arith, common_steps, nat_tests, nowhere word)

to-the-end : (word : List ℕ) (i : ℕ) → slice_range word i (length word) ≡ drop i word
to-the-end word i = grind (arith, common_steps)

-- what is left after a first point at this place, as `get` gives it
pub after-first : (word : List ℕ) (k : ℕ) (r : Option (Bor (List ℕ))) → k ≡ point_at word → k ≤ length word
    → PartBy (λ (x : Bor (List ℕ)). x.now) word (k + 1) (length word) r
    → option_map (λ d. d.now) r ≡ after_point word
after-first word k None e w (inl few, some) = sym (nowhere word (omega arith))
after-first word k None e w (inr never, some) = absurd (omega arith)
after-first word k (Some x) e w ((more, all, is, len), some) =
    rw (is, to-the-end word (k + 1), add-one, e) (sym (there word (omega arith)))

-- a word with no part is no time, and one with a whole and a part is their sum within an hour
pub no-part : (word : List ℕ) (whole : ℕ) → Some whole ≡ whole_of (take (point_at word) word) → None ≡ part_of (after_point word) → None ≡ micros_of word
no-part word whole w p = grind (arith, common_steps)

both-parts : (word : List ℕ) (whole part : ℕ) → Some whole ≡ whole_of (take (point_at word) word) → Some part ≡ part_of (after_point word)
    → within_an_hour (1000 * whole + part) ≡ micros_of word
both-parts word whole part w p = grind (arith, common_steps)

-- the same of a word that is cut at its first point
pub cut-parts : (word : List ℕ) (k : ℕ) (r : Option (Bor (List ℕ))) (whole part : ℕ) → k ≡ point_at word → k ≤ length word
    → PartBy (λ (x : Bor (List ℕ)). x.now) word (k + 1) (length word) r
    → Some whole ≡ whole_of (take k word) → Some part ≡ part_of (option_map (λ d. d.now) r)
    → within_an_hour (1000 * whole + part) ≡ micros_of word
cut-parts word k r whole part at within cut w p =
    let front : Some whole ≡ whole_of (take (point_at word) word) = rw (← at) w in
    both-parts word whole part front (p ∙ ap part_of (after-first word k r at within cut))
