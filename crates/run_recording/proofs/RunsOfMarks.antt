-- The runs of marks, mark by mark.
use Rattle.std.proofs.Common.{◌≡◌, ◌∙◌, ap, sym, subst, refl, ℕ, zero, suc, ◌+◌, ◌-◌, ◌^◌, ◌<◌, ◌↔◌, min, Bool, false, IsTrue, List, [], ◌∷◌, ◌++◌, length, replicate, take, drop, map, slice_index_or, slice_set, append_assoc, arith}
use Rattle.std.specs.List.{flat_map}
use Rattle.std.proofs.lemmas.Grind.{common_steps, flat_map-append}
use Rattle.std.proofs.lemmas.List.{append-nil, length-append, length-map, length-replicate, length-take-le}
use Rattle.std.proofs.Math.Seq.{take-append_seam, take-suc, take-length}
use Rattle.run_recording.specs.declared.column.Column.{Column}
use Rattle.run_recording.specs.declared.mark.Mark.{Mark}
use Rattle.run_recording.specs.declared.runs.Run.{Run}
use Rattle.run_recording.specs.Runs.{marks_along, StandFrom, AreApart, AreRuns, EndIn, longer, AreRunsNext}

-- one more copy
once_more : (n : ℕ) (m : Mark) → replicate (suc n) m ≡ replicate n m ++ m ∷ []
once_more zero m = refl
once_more (suc n) m = ap (λ ms. m ∷ ms) (once_more n m)

-- the number of marks of runs
both_lengths : (run : Run) (runs : List Run) → length (flat_map marks_along (run ∷ runs)) ≡ run.count + length (flat_map marks_along runs)
both_lengths run runs =
    length-append (marks_along run) (flat_map marks_along runs) ∙ ap (λ n. n + length (flat_map marks_along runs)) (length-replicate run.count run.mark)

-- ---- the last run is a column longer

longer_marks : (m : Mark) (runs : List Run) → EndIn m runs → length (flat_map marks_along runs) < 2 ^ 63
    → flat_map marks_along (longer runs) ≡ flat_map marks_along runs ++ m ∷ []
longer_marks m [] is few = elim is [ ]
longer_marks m (run ∷ []) is few =
    let all : run.count + 0 < 2 ^ 63 = subst (λ n. n < 2 ^ 63) (both_lengths run []) few in
    let one_more : min (run.count + 1) (2 ^ 64 - 1) ≡ suc run.count = omega (arith, all) in
    ap (λ n. replicate n run.mark ++ []) one_more
    ∙ append-nil (replicate (suc run.count) run.mark) ∙ once_more run.count run.mark
    ∙ ap (λ a. replicate run.count run.mark ++ a ∷ []) is
    ∙ ap (λ ms. ms ++ m ∷ []) (sym (append-nil (marks_along run)))
longer_marks m (run ∷ next ∷ runs) is few =
    let all : run.count + length (flat_map marks_along (next ∷ runs)) < 2 ^ 63 = subst (λ n. n < 2 ^ 63) (both_lengths run (next ∷ runs)) few in
    ap (λ ms. marks_along run ++ ms) (longer_marks m (next ∷ runs) is (omega (arith, all)))
    ∙ sym (append_assoc (marks_along run) (flat_map marks_along (next ∷ runs)) (m ∷ []))

longer_stand : (place : ℕ) (runs : List Run) → StandFrom place runs → StandFrom place (longer runs)
longer_stand place [] stand = stand
longer_stand place (run ∷ []) stand = (stand.0, omega (arith, stand.1), tt)
longer_stand place (run ∷ next ∷ runs) stand = (stand.0, stand.1, longer_stand (place + run.count) (next ∷ runs) stand.2)

longer_apart : (runs : List Run) → AreApart runs → AreApart (longer runs)
longer_apart [] apart = apart
longer_apart (run ∷ []) apart = apart
longer_apart (run ∷ next ∷ []) apart = apart
longer_apart (run ∷ next ∷ after ∷ runs) apart = (apart.0, longer_apart (next ∷ after ∷ runs) apart.1)

-- the last run goes on
pub goes_on : (runs : List Run) (place : ℕ) (m : Mark) → place < 2 ^ 63 → EndIn m runs → AreRunsNext runs place m (longer runs)
goes_on runs place m few is marks many runs_are =
    let all : length (flat_map marks_along runs) < 2 ^ 63 = rw (runs_are.are, many) few in
    record {
      are = longer_marks m runs is all ∙ ap (λ ms. ms ++ m ∷ []) runs_are.are;
      stand = longer_stand 0 runs runs_are.stand;
      apart = longer_apart runs runs_are.apart;
    }

-- ---- a run is added

added_stand : (place : ℕ) (runs : List Run) (new : Run) → StandFrom place runs → new.first ≡ place + length (flat_map marks_along runs) → new.count ≡ 1
    → StandFrom place (runs ++ new ∷ [])
added_stand place [] new stand first one = (omega (arith, first), omega (arith, one), tt)
added_stand place (run ∷ runs) new stand first one =
    let columns_after : new.first ≡ place + run.count + length (flat_map marks_along runs) = omega (arith, first, both_lengths run runs) in
    (stand.0, stand.1, added_stand (place + run.count) runs new stand.2 columns_after one)

added_apart : (runs : List Run) (new : Run) → AreApart runs → ¬ EndIn new.mark runs → AreApart (runs ++ new ∷ [])
added_apart [] new apart other = tt
added_apart (run ∷ []) new apart other = (other, tt)
added_apart (run ∷ next ∷ runs) new apart other = (apart.0, added_apart (next ∷ runs) new apart.1 other)

-- a new run begins
pub begins : (runs : List Run) (place : ℕ) (m : Mark) → ¬ EndIn m runs
    → AreRunsNext runs place m (runs ++ record { first = place; count = 1; mark = m } ∷ [])
begins runs place m other marks many runs_are =
    let new : Run = record { first = place; count = 1; mark = m } in
    let first : place ≡ 0 + length (flat_map marks_along runs) = omega (arith, ap length runs_are.are, many) in
    record {
      are = flat_map-append marks_along runs (new ∷ []) ∙ ap (λ ms. ms ++ m ∷ []) runs_are.are;
      stand = added_stand 0 runs new runs_are.stand first refl;
      apart = added_apart runs new runs_are.apart other;
    }

-- ---- along the columns

-- the marks that are seen in columns
mapped : (f : Column → Mark) (columns : List Column) (place : ℕ) (d : Column) → place < length columns
    → slice_index_or (map f columns) place (f d) ≡ f (slice_index_or columns place d)
mapped f [] place d within = refl
mapped f (c ∷ columns) zero d within = refl
mapped f (c ∷ columns) (suc place) d within = mapped f columns place d (omega (arith, within))

-- the runs of the first columns, and of one more
pub marks_next : (f : Column → Mark) (columns : List Column) (place : ℕ) (d : Column) (mark : Mark) (old new : List Run) → place < length columns
    → mark ≡ f (slice_index_or columns place d) → AreRuns (take place (map f columns)) old → AreRunsNext old place mark new
    → AreRuns (take (place + 1) (map f columns)) new
marks_next f columns place d mark old new within is so_far next =
    let one_more : place + 1 ≡ suc place = omega arith in
    let few : place < length (map f columns) = subst (λ n. place < n) (sym (length-map columns f)) within in
    let marks : take (place + 1) (map f columns) ≡ take place (map f columns) ++ mark ∷ [] =
    ap (λ k. take k (map f columns)) one_more ∙ take-suc (map f columns) place (f d) few
    ∙ ap (λ m. take place (map f columns) ++ m ∷ []) (mapped f columns place d within ∙ sym is) in
    subst (λ ms. AreRuns ms new) (sym marks) (next (take place (map f columns)) (length-take-le place (map f columns) (omega (arith, few))) so_far)

-- after the last column they are all runs
pub all_marks : (f : Column → Mark) (columns : List Column) (place : ℕ) (runs : List Run) → length columns ≡ place
    → AreRuns (take place (map f columns)) runs → AreRuns (map f columns) runs
all_marks f columns place runs all so_far =
    subst (λ ms. AreRuns ms runs) (ap (λ k. take k (map f columns)) (sym (length-map columns f ∙ all)) ∙ take-length (map f columns)) so_far

-- ---- the last run

-- writing the last run
written_at_end : (a : Run) (runs : List Run) (d : Run) (new : ℕ)
    → new ≡ min ((slice_index_or (a ∷ runs) (length runs) d).count + 1) (2 ^ 64 - 1)
    → slice_set (a ∷ runs) (length runs) (record (slice_index_or (a ∷ runs) (length runs) d) { count = new }) ≡ longer (a ∷ runs)
written_at_end a [] d new is = rw is refl
written_at_end a (b ∷ runs) d new is = ap (λ rs. a ∷ rs) (written_at_end b runs d new is)

pub last_written : (runs : List Run) (d : Run) (new : ℕ) → 0 < length runs
    → new ≡ min ((slice_index_or runs (length runs - 1) d).count + 1) (2 ^ 64 - 1)
    → slice_set runs (length runs - 1) (record (slice_index_or runs (length runs - 1) d) { count = new }) ≡ longer runs
last_written [] d new some is = grind (arith, common_steps)
last_written (a ∷ runs) d new some is =
    let place : length (a ∷ runs) - 1 ≡ length runs = omega arith in
    rw place (written_at_end a runs d new (rw place at is))

-- the mark of the last run
ends_when_written : (m : Mark) (a : Run) (runs : List Run) (d : Run) → EndIn m (a ∷ runs) ↔ ((slice_index_or (a ∷ runs) (length runs) d).mark ≡ m)
ends_when_written m a [] d = ((λ e. e), (λ e. e))
ends_when_written m a (b ∷ runs) d = ends_when_written m b runs d

pub last_ends : (m : Mark) (runs : List Run) (d : Run) → 0 < length runs → EndIn m runs ↔ ((slice_index_or runs (length runs - 1) d).mark ≡ m)
last_ends m [] d some = grind (arith, common_steps)
last_ends m (a ∷ runs) d some =
    let place : length (a ∷ runs) - 1 ≡ length runs = omega arith in
    rw place (ends_when_written m a runs d)

-- the runs after the last one was written through a slice
longer_length : (runs : List Run) → length (longer runs) ≡ length runs
longer_length [] = refl
longer_length (run ∷ []) = refl
longer_length (run ∷ next ∷ runs) = ap suc (longer_length (next ∷ runs))

pub written_back : (n : ℕ) (runs new : List Run) → n ≡ length runs → new ≡ longer runs → take n (new ++ drop (length new) runs) ≡ longer runs
written_back n runs new all is =
    let long : n ≡ length new = all ∙ sym (longer_length runs) ∙ ap length (sym is) in
    ap (λ k. take k (new ++ drop (length new) runs)) long ∙ take-append_seam new (drop (length new) runs) ∙ is

-- nothing is both true and false
pub false_true : {b : Bool} → IsTrue b → b ≡ false → ⊥
false_true {b} is not = grind (arith, common_steps)
