-- Places of an array written one after the other.
use Rattle.std.proofs.Common.{◌≡◌, ◌∙◌, ap, sym, refl, ℕ, zero, suc, ◌+◌, ◌<◌, List, [], ◌∷◌, ◌++◌, length, take, map, get_or, slice_set, arith}
use Rattle.std.specs.List.{range_with_len}
use Rattle.std.proofs.lemmas.Grind.{common_steps}
use Rattle.std.proofs.lemmas.List.FromFn.{map-range_with_len_more}
use Rattle.std.proofs.Math.Seq.{take-length}
use Rattle.run_recording.specs.declared.look.Look.{Look}
use Rattle.run_recording.specs.Seen.{mark_of_look}

-- the first items, when the next one is written
suc_written : {X : Type 0} (items : List X) (v : ℕ) (m : X) → v < length items → take (suc v) (slice_set items v m) ≡ take v items ++ m ∷ []
suc_written [] v m room = grind (arith, common_steps)
suc_written (a ∷ items) zero m room = refl
suc_written (a ∷ items) (suc v) m room = ap (λ xs. a ∷ xs) (suc_written items v m (omega (arith, room)))

pub first_written : {X : Type 0} (items : List X) (v : ℕ) (m : X) → v < length items → take (v + 1) (slice_set items v m) ≡ take v items ++ m ∷ []
first_written items v m room =
    let next : v + 1 ≡ suc v = omega arith in
    rw next (suc_written items v m room)

-- their number stays
pub written-length : {X : Type 0} (items : List X) (v : ℕ) (m : X) → length (slice_set items v m) ≡ length items
written-length items v m = grind (arith, common_steps)

-- taking as many as there are takes all
pub all_taken : {X : Type 0} (items : List X) (n : ℕ) → length items ≡ n → take n items ≡ items
all_taken items n all = ap (λ k. take k items) (sym all) ∙ take-length items

-- ---- what a function gives at the first places

-- it is written at the next place
pub written_next : {X : Type 0} (f : ℕ → X) (items : List X) (v : ℕ) (m : X) → v < length items → take v items ≡ map f (range_with_len 0 v) → m ≡ f v
    → take (v + 1) (slice_set items v m) ≡ map f (range_with_len 0 (v + 1))
written_next f items v m room before is =
    first_written items v m room ∙ ap (λ xs. xs ++ m ∷ []) before ∙ ap (λ x. map f (range_with_len 0 v) ++ x ∷ []) is
    ∙ sym (map-range_with_len_more f 0 v v (omega arith))

-- it is written at all places
pub written_all : {X : Type 0} (f : ℕ → X) (items : List X) (v n : ℕ) → v ≡ n → length items ≡ n → take v items ≡ map f (range_with_len 0 v)
    → items ≡ map f (range_with_len 0 n)
written_all f items v n end long before = sym (all_taken items v (long ∙ sym end)) ∙ before ∙ ap (λ k. map f (range_with_len 0 k)) end

-- ---- the marks of looks

-- one more mark is that of one more look
suc_marked : (looks : List Look) (v : ℕ) (d : Look) → v < length looks
    → take (suc v) (map mark_of_look looks) ≡ take v (map mark_of_look looks) ++ mark_of_look (get_or looks v d) ∷ []
suc_marked [] v d there = grind (arith, common_steps)
suc_marked (a ∷ looks) zero d there = refl
suc_marked (a ∷ looks) (suc v) d there = ap (λ xs. mark_of_look a ∷ xs) (suc_marked looks v d (omega (arith, there)))

pub marked_more : (looks : List Look) (v : ℕ) (d : Look) → v < length looks
    → take (v + 1) (map mark_of_look looks) ≡ take v (map mark_of_look looks) ++ mark_of_look (get_or looks v d) ∷ []
marked_more looks v d there =
    let next : v + 1 ≡ suc v = omega arith in
    rw next (suc_marked looks v d there)

-- there are as many marks as looks
pub marked-length : (looks : List Look) → length (map mark_of_look looks) ≡ length looks
marked-length looks = grind (arith, common_steps)
