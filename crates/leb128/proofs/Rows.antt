-- Numbers that are small enough to see through.
use Rattle.std.proofs.Common.{◌≡◌, refl, ap, ℕ, List, [], ◌∷◌, ◌++◌, length, Ok, Err, arith}
use Rattle.std.proofs.lemmas.Grind.{common_steps}
use Rattle.std.proofs.lemmas.List.{length-append}
use Rattle.leb128.specs.declared.unread.Unread.TheVariants.{Short, Invalid}
use Rattle.leb128.specs.Spelling.{leb128}
use Rattle.leb128.specs.Reading.{number_at}
use Rattle.leb128.specs.Pieces.{IsKept, IsOfAtMost}

-- the examples of DWARF's figure: 2, 127, 128, 129, 130, 12857
two : leb128 2 ≡ 2 ∷ []
unfolding leb128
two = refl

most_of_one : leb128 127 ≡ 127 ∷ []
unfolding leb128
most_of_one = refl

least_of_two : leb128 128 ≡ 128 ∷ 1 ∷ []
unfolding leb128
least_of_two = refl

one_more : leb128 129 ≡ 129 ∷ 1 ∷ []
unfolding leb128
one_more = refl

both_bytes : leb128 12857 ≡ 185 ∷ 100 ∷ []
unfolding leb128
both_bytes = refl

-- the greatest number takes ten bytes, of which the last has one bit
greatest : leb128 18446744073709551615 ≡ 255 ∷ 255 ∷ 255 ∷ 255 ∷ 255 ∷ 255 ∷ 255 ∷ 255 ∷ 255 ∷ 1 ∷ []
unfolding leb128
greatest = refl

-- the lowest seven bits come first
not-the-other-order : leb128 12857 ≡ 228 ∷ 57 ∷ [] → ⊥
unfolding leb128
not-the-other-order e = grind arith

read : number_at (185 ∷ 100 ∷ 7 ∷ []) ≡ Ok (12857, 7 ∷ [])
unfolding number_at
read = refl

cut : number_at (185 ∷ []) ≡ Err Short
unfolding number_at
cut = refl

none : number_at [] ≡ Err Short
unfolding number_at
none = refl

-- 0 in two bytes, and 2^64
longer_than_need_be : number_at (128 ∷ 0 ∷ []) ≡ Err Invalid
unfolding number_at
longer_than_need_be = refl

too_great : number_at (128 ∷ 128 ∷ 128 ∷ 128 ∷ 128 ∷ 128 ∷ 128 ∷ 128 ∷ 128 ∷ 2 ∷ []) ≡ Err Invalid
unfolding number_at
too_great = refl

endless : number_at (128 ∷ 128 ∷ 128 ∷ 128 ∷ 128 ∷ 128 ∷ 128 ∷ 128 ∷ 128 ∷ 128 ∷ []) ≡ Err Invalid
unfolding number_at
endless = refl

-- what is kept if more bytes follow: they are left, too; a short piece says nothing of what follows
kept : IsKept (7 ∷ []) (number_at (185 ∷ 100 ∷ [])) (number_at (185 ∷ 100 ∷ 7 ∷ []))
unfolding number_at
kept = refl

more-is-left : IsKept {X = ℕ} (7 ∷ []) (Ok (12857, [])) (Ok (12857, [])) → ⊥
more-is-left e = grind (arith, common_steps)

still-invalid : IsKept {X = ℕ} (7 ∷ []) (Err Invalid) (Ok (12857, [])) → ⊥
still-invalid e = grind (arith, common_steps)

-- two bytes were taken
two_bytes : IsOfAtMost 2 (185 ∷ 100 ∷ 7 ∷ []) (number_at (185 ∷ 100 ∷ 7 ∷ []))
unfolding number_at
two_bytes = (185 ∷ 100 ∷ [], refl, omega arith)

not-one_byte : IsOfAtMost {X = ℕ} 1 (185 ∷ 100 ∷ 7 ∷ []) (Ok (12857, 7 ∷ [])) → ⊥
not-one_byte (front, parts, few) =
    let long : 3 ≡ length (front ++ 7 ∷ []) = ap (λ (l : List ℕ). length l) parts in
    omega (arith, long, few, length-append front (7 ∷ []))

enough-is-not-short : IsOfAtMost {X = ℕ} 2 (185 ∷ 228 ∷ []) (Err Short) → ⊥
enough-is-not-short h = omega (arith, h)
