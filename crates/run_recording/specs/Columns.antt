-- What several moments show together, and columns folded in pairs.
use Rattle.std.specs.Prelude.{◌≡◌, ℕ, ◌+◌, ◌<◌, ◌||◌, if◌then◌else◌, Bool, true, false, max, List, [], ◌∷◌, slice_set, slice_index_or}
use Rattle.world.specs.judge.Judging.{counted_up_to}
use Rattle.run_recording.specs.declared.change.Change.{Change}
use Rattle.run_recording.specs.declared.change.Change.TheVariants.{Nothing, At, All}
use Rattle.run_recording.specs.declared.column.Column.{Column}
use Rattle.run_recording.specs.declared.column.Counts.{Counts}
use Rattle.run_recording.specs.declared.mark.Mark.{Mark}
use Rattle.run_recording.specs.declared.mark.Mark.TheVariants.{Settled}
use Rattle.run_recording.specs.Marks.{worse_marks}

-- the column of one moment
abbrev pub column_of : List Mark → Counts → Column
column_of marks counts = record {
  marks = marks;
  privileged = counts.privileged;
  lending = counts.lending;
  sweeps = counts.sweeps;
  damaged = counts.damaged;
  sharp = counts.sharp;
  bound = counts.bound;
}

-- the worst of what two columns show: the worse marks, the greater counts, all sweeps, and what
-- happened at any moment
abbrev pub worse_column : Column → Column → Column
worse_column a b = record {
  marks = worse_marks a.marks b.marks;
  privileged = max a.privileged b.privileged;
  lending = max a.lending b.lending;
  sweeps = counted_up_to (a.sweeps + b.sweeps);
  damaged = a.damaged || b.damaged;
  sharp = a.sharp || b.sharp;
  bound = a.bound || b.bound;
}

-- the worst of a moment and of those after it
abbrev pub worst : Column → List Column → Column
worst first [] = first
worst first (next ∷ later) = worse_column first (worst next later)

-- columns folded in pairs; an odd one at the end stays
abbrev pub folded : List Column → List Column
folded [] = []
folded (a ∷ []) = a ∷ []
folded (a ∷ b ∷ columns) = worse_column a b ∷ folded columns

-- whether a list has an even length
abbrev pub is_even : List Column → Bool
is_even [] = true
is_even (a ∷ []) = false
is_even (a ∷ b ∷ columns) = is_even columns

-- the last column, if there is one, shows one moment more
abbrev pub with_last : List Column → Column → List Column
with_last [] moment = []
with_last (a ∷ []) moment = worse_column a moment ∷ []
with_last (a ∷ b ∷ columns) moment = a ∷ with_last (b ∷ columns) moment

-- how many moments the last column shows after a fold, if it showed `last` and the others `width`
abbrev pub last_folded : Bool → ℕ → ℕ → ℕ
last_folded even width last = if even then last + width else last

-- ---- what a moment changes

-- at most at these ids marks have changed
abbrev pub AreChangedBy : Change → List Mark → List Mark → Type 0
AreChangedBy Nothing old new = new ≡ old
AreChangedBy (At v) old new = (v < 64) × (new ≡ slice_set old v (slice_index_or new v Settled))
AreChangedBy All old new = Unit {0}

-- no later mark is worse
abbrev pub AreAsBad : List Mark → List Mark → Type 0
AreAsBad marks later = worse_marks marks later ≡ marks

-- the marks changed at most at these ids since a moment that was not worse than the worst ones
abbrev pub ArisesFrom : List Mark → Change → List Mark → Type 0
ArisesFrom marks All later = Unit {0}
ArisesFrom marks Nothing later = AreAsBad marks later
ArisesFrom marks (At v) later = (earlier : List Mark) × AreAsBad marks earlier × AreChangedBy (At v) earlier later

-- no mark is worse than that of the last column, if there is one
abbrev pub IsCovered : List Column → List Mark → Type 0
IsCovered [] marks = Unit {0}
IsCovered (a ∷ []) marks = AreAsBad a.marks marks
IsCovered (a ∷ b ∷ columns) marks = IsCovered (b ∷ columns) marks

-- the marks changed at most at these ids since a moment that was not worse than the last column
abbrev pub Follows : List Column → Change → List Mark → Type 0
Follows [] change marks = Unit {0}
Follows (a ∷ []) change marks = ArisesFrom a.marks change marks
Follows (a ∷ b ∷ columns) change marks = Follows (b ∷ columns) change marks
