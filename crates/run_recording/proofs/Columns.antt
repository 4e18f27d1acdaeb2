-- The worst of moments, in any grouping.
use Rattle.std.proofs.Common.{◌≡◌, ◌∙◌, ap, sym, refl, ℕ, ◌+◌, ◌-◌, ◌%◌, ◌<◌, ◌||◌, if◌then◌else◌, Bool, true, false, nat_eq, max, List, [], ◌∷◌, ◌++◌, length, arith, slice_set, slice_index_or}
use Rattle.std.proofs.lemmas.Grind.{common_steps}
use Rattle.world.specs.judge.Judging.{counted_up_to}
use Rattle.run_recording.specs.declared.column.Column.{Column}
use Rattle.run_recording.specs.declared.change.Change.{Change}
use Rattle.run_recording.specs.declared.change.Change.TheVariants.{All}
use Rattle.run_recording.specs.declared.column.Counts.{Counts}
use Rattle.run_recording.specs.declared.mark.Mark.{Mark}
use Rattle.run_recording.specs.Columns.{column_of, folded, worse_column, worst, is_even, with_last}
use Rattle.run_recording.specs.Columns.{ArisesFrom, AreChangedBy, Follows, IsCovered}
use Rattle.run_recording.proofs.Marks.{worse_marks-assoc, as_bad_same, as_bad_after, arises, arises_worse}

max_assoc : (a b c : ℕ) → max (max a b) c ≡ max a (max b c)
max_assoc a b c = grind (arith, common_steps)

sum_assoc : (a b c : ℕ) → counted_up_to (counted_up_to (a + b) + c) ≡ counted_up_to (a + counted_up_to (b + c))
sum_assoc a b c = grind (arith, common_steps)

or_assoc : (a b c : Bool) → ((a || b) || c) ≡ (a || (b || c))
or_assoc a b c = grind (arith, common_steps)

-- the worst of three columns, in either grouping
pub worse_column-assoc : (a b c : Column) → worse_column (worse_column a b) c ≡ worse_column a (worse_column b c)
worse_column-assoc a b c =
    rw (
      worse_marks-assoc a.marks b.marks c.marks,
      max_assoc a.privileged b.privileged c.privileged,
      max_assoc a.lending b.lending c.lending,
      sum_assoc a.sweeps b.sweeps c.sweeps,
      or_assoc a.damaged b.damaged c.damaged,
      or_assoc a.sharp b.sharp c.sharp,
      or_assoc a.bound b.bound c.bound,
    ) refl

-- the worst of some moments and of later ones
pub worst_both : (first : Column) (later : List Column) (next : Column) (more : List Column)
    → worst first (later ++ next ∷ more) ≡ worse_column (worst first later) (worst next more)
worst_both first [] next more = refl
worst_both first (a ∷ later) next more =
    ap (worse_column first) (worst_both a later next more) ∙ sym (worse_column-assoc first (worst a later) (worst next more))

-- whether a length is even
pub even_length : (columns : List Column) → nat_eq (length columns % 2) 0 ≡ is_even columns
even_length [] = refl
even_length (a ∷ []) = refl
even_length (a ∷ b ∷ columns) =
    let two : length (a ∷ b ∷ columns) % 2 ≡ length columns % 2 = omega arith in
    ap (λ n. nat_eq n 0) two ∙ even_length columns

-- writing the last of some columns
written_at_end : (a : Column) (columns : List Column) (moment d : Column)
    → slice_set (a ∷ columns) (length columns) (worse_column (slice_index_or (a ∷ columns) (length columns) d) moment) ≡ with_last (a ∷ columns) moment
written_at_end a [] moment d = refl
written_at_end a (b ∷ columns) moment d = ap (λ cs. a ∷ cs) (written_at_end b columns moment d)

pub last_written : (columns : List Column) (moment d : Column) → 0 < length columns
    → slice_set columns (length columns - 1) (worse_column (slice_index_or columns (length columns - 1) d) moment) ≡ with_last columns moment
last_written [] moment d some = grind (arith, common_steps)
last_written (a ∷ columns) moment d some =
    let place : length (a ∷ columns) - 1 ≡ length columns = omega arith in
    rw place (written_at_end a columns moment d)

-- ---- marks that follow those of the last column

-- a new column is as bad as its moment
pub covered_new : (columns : List Column) (marks : List Mark) (counts : Counts) → IsCovered (columns ++ column_of marks counts ∷ []) marks
covered_new [] marks counts = as_bad_same marks
covered_new (a ∷ []) marks counts = as_bad_same marks
covered_new (a ∷ b ∷ columns) marks counts = covered_new (b ∷ columns) marks counts

-- and so is one that shows the moment too
pub covered_last : (columns : List Column) (marks : List Mark) (counts : Counts) → IsCovered (with_last columns (column_of marks counts)) marks
covered_last [] marks counts = tt
covered_last (a ∷ []) marks counts = as_bad_after a.marks marks
covered_last (a ∷ b ∷ []) marks counts = covered_last (b ∷ []) marks counts
covered_last (a ∷ b ∷ c ∷ columns) marks counts = covered_last (b ∷ c ∷ columns) marks counts

-- whatever followed the last column follows it after a fold
pub follows_folded : (columns : List Column) (change : Change) (marks : List Mark) → Follows columns change marks → Follows (folded columns) change marks
follows_folded [] change marks h = h
follows_folded (a ∷ []) change marks h = h
follows_folded (a ∷ b ∷ []) change marks h = arises_worse a.marks b.marks change marks h
follows_folded (a ∷ b ∷ c ∷ []) change marks h = h
follows_folded (a ∷ b ∷ c ∷ d ∷ columns) change marks h = follows_folded (c ∷ d ∷ columns) change marks h

-- any marks follow, if all may have changed
pub follows_all : (columns : List Column) (marks : List Mark) → Follows columns All marks
follows_all [] marks = tt
follows_all (a ∷ []) marks = tt
follows_all (a ∷ b ∷ columns) marks = follows_all (b ∷ columns) marks

follows_change : (columns : List Column) (old new : List Mark) (change : Change) → IsCovered columns old → AreChangedBy change old new → Follows columns change new
follows_change [] old new change covered changed = tt
follows_change (a ∷ []) old new change covered changed = arises a.marks old new change covered changed
follows_change (a ∷ b ∷ columns) old new change covered changed = follows_change (b ∷ columns) old new change covered changed

-- the last change is enough if the moment before was kept; if not, all may have changed
pub follows_where : (columns : List Column) (old new : List Mark) (change : Change) (was_kept : Bool) → (was_kept ≡ true → IsCovered columns old)
    → AreChangedBy change old new → Follows columns (if was_kept then change else All) new
follows_where columns old new change true covered changed = follows_change columns old new change (covered refl) changed
follows_where columns old new change false covered changed = follows_all columns new

-- what follows some columns arises from the last
arises_at_end : (a : Column) (columns : List Column) (change : Change) (marks : List Mark) (d : Column) → Follows (a ∷ columns) change marks
    → ArisesFrom (slice_index_or (a ∷ columns) (length columns) d).marks change marks
arises_at_end a [] change marks d h = h
arises_at_end a (b ∷ columns) change marks d h = arises_at_end b columns change marks d h

pub last_arises : (columns : List Column) (change : Change) (marks : List Mark) (d : Column) → 0 < length columns → Follows columns change marks
    → ArisesFrom (slice_index_or columns (length columns - 1) d).marks change marks
last_arises [] change marks d some h = grind (arith, common_steps)
last_arises (a ∷ columns) change marks d some h =
    let place : length (a ∷ columns) - 1 ≡ length columns = omega arith in
    rw place (arises_at_end a columns change marks d h)
